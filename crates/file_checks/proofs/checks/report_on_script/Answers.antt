use Rattle.std.proofs.lemmas.Result.{IfOk-weaker}
use Rattle.file_checks.specs.inner.Reports.{IsReportOn}
use Rattle.file_checks.proofs.ReadRuns.{report_on_run}
use Rattle.file_checks.proofs.checks.report_on_script.Goals as goal

pub returns : goal.returns
returns g c =
    let given = c.in_ok-reader.ensures in
    IfOk-weaker c.check_script.result _ (IsReportOn c.args.config.now c.args.name.now c.args.input.now)
    (λ report all. report_on_run _ _ c.in_ok-reader.reader c.args.config.now c.args.name.now c.args.input.now c.in_ok-open.field-0 report c.in_ok-open.ensures given.inner given.empty given.capacity all) c.check_script.ensures
