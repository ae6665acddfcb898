use Rattle.std.proofs.Common.{◌+◌, rules, string_bytes}
use Rattle.giotto_faults.specs.declared.findings.Finding.{Finding}
use Rattle.script_checks.proofs.Showing.{finding_further}
use Rattle.script_checks.specs.LineTexts.{place_in}
use Rattle.script_checks.proofs.scripts.add_findings.Goals as goal

pub loop-finding-preserved : goal.loop-finding-preserved
loop-finding-preserved c =
    let l = c.loop-finding in
    let end = c.args.end.now in
    finding_further c.args.file.now (λ (f : Finding). place_in end.number end.line.now (end.before + f.offset)) c.args.findings.now l.finding-index c.finding-item.result (string_bytes c.args.text.now)
    (string_bytes l.text) (string_bytes c.in_ok-told.told) (string_bytes c.push_str.new.self) l.invariant c.loop-finding-test.true c.finding-item.is c.in_ok-told.ensures (search rules)
