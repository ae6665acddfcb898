use Rattle.std.proofs.Common.{◌≡◌, ◌||◌, length}
use Rattle.std.specs.List.{list_any}
use Rattle.rig_model.specs.declared.jobs.JobId.{JobId}
use Rattle.instant_engine.specs.job_table.Jobs.{JobValue}
use Rattle.rig_model.specs.Jobs.{same_job}
use Rattle.host_core.proofs.plays.add_names.Given as goal

abbrev pub invariant-loop-job : goal.invariant-loop-job
invariant-loop-job l =
    (j : JobId) → (list_any (λ r. same_job r j) l.names.keys || list_any (λ (k : JobValue). same_job k.id j) l.jobs.jobs)
    ≡ (list_any (λ r. same_job r j) l.initial.names.keys || list_any (λ (k : JobValue). same_job k.id j) l.initial.jobs.jobs)

abbrev pub decreases-loop-job : goal.decreases-loop-job
decreases-loop-job l = length l.jobs.jobs
