-- What a worker does for a job.
use Rattle.std.specs.Prelude.{ℕ, List, [], ◌∷◌}
use Rattle.host_core.specs.declared.hosts.Counted.{Counted}
use Rattle.rig_model.specs.declared.jobs.JobId.{JobId}
use Rattle.tenant_jobs.specs.Jobs.{JobValue}

-- one thing that a worker does
pub data Work : Type 0 where
  -- it waited until the job of this name might be computed
  entered : JobId → Work
  -- it computed this job
  computed : JobValue → Work
  -- it handed in the completion of this job, with this answer
  handed_in : JobValue → Counted → ℕ → Work

-- all that is done for one job, with the answer to its completion
abbrev pub work_for : JobValue → Counted → ℕ → List Work
work_for job counted place = entered job.id ∷ computed job ∷ handed_in job counted place ∷ []
