-- Jobs: the computations that an instant releases.
use Rattle.std.specs.Prelude.{ℤ, List}
use Rattle.giotto_tasks.specs.Syntax.{TaskBody}
use Rattle.rig_model.specs.declared.jobs.JobId.{JobId}

-- a job: its name, its body, and the inputs and states of its release
pub record JobValue : Type 0 where
  pub id : JobId
  pub body : TaskBody
  pub inputs : List ℤ
  pub states : List ℤ
