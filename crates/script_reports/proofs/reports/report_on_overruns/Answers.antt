use Rattle.script_reports.specs.cited.Reports.{report_on_overrun}
use Rattle.script_reports.proofs.ReportLines.{written_more}
use Rattle.script_reports.proofs.reports.report_on_overruns.Goals as goal

pub loop-overrun-preserved : goal.loop-overrun-preserved
loop-overrun-preserved c =
    let l = c.loop-overrun in
    written_more (report_on_overrun c.args.number c.args.line.now) c.args.overruns.now l.overrun-index c.overrun-item.result _ _ _ l.invariant c.in_ok-report.ensures c.overrun-item.is c.loop-overrun-test.true
    (rw c.as_str.ensures.value at c.in_ok-push_str.ensures.bytes)
