use Rattle.std.proofs.Common.{refl, ◌∙◌}
use Rattle.rig_history.proofs.Giving.{completion_given}
use Rattle.rig_history.proofs.given.completion.Goals as goal

pub returns-in-Counted : goal.returns-in-Counted
returns-in-Counted c =
    completion_given c.args.host.now _ c.copy-id.result c.run_job-done.result (c.copy-id.ensures ∙ c.id.ensures) (c.in-Counted.ensures.counted.0 refl) c.in-Counted.ensures.answer c.in-Counted.ensures.step
