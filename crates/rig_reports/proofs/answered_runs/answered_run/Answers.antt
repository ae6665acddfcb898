use Rattle.std.proofs.Common.{◌∙◌}
use Rattle.rig_reports.proofs.Reporting.{answered}
use Rattle.rig_reports.proofs.answered_runs.answered_run.Goals as goal

pub returns : goal.returns
returns c =
    let heard = c.in_ok-listener in
    answered c.args.config.now _ heard.course c.as_bytes-reader.result.now _ heard.listener.replies _ (c.as_bytes-reader.ensures.value ∙ (c.as_str.ensures.value ∙ c.in_ok-script.ensures)) c.in_ok-with_end.ensures
    heard.ensures.heard heard.ensures.course
