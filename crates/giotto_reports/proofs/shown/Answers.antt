use Rattle.std.proofs.Common.{rules, string_bytes}
use Rattle.giotto_reports.proofs.Showing.{shown_further}
use Rattle.giotto_reports.proofs.shown.Goals as goal

pub loop-finding-preserved : goal.loop-finding-preserved
loop-finding-preserved c =
    let l = c.loop-finding in
    shown_further c.args.file.now c.args.source.now c.args.findings.now l.finding-index c.finding-item.result (string_bytes l.text) (string_bytes c.in_ok-told.told)
    (string_bytes c.push_str.new.self) l.invariant c.loop-finding-test.true c.finding-item.is c.in_ok-told.ensures (search rules)
