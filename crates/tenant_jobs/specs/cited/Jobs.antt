-- Which jobs can be computed.
use Rattle.std.specs.Prelude.{◌≡◌, length}
use Rattle.giotto_tasks.specs.Sound.{IsSound}
use Rattle.tenant_jobs.specs.Jobs.{JobValue}

-- a job that can be computed
pub record IsComputable (j : JobValue) : Type 0 where
  pub inputs : length j.inputs ≡ length j.body.inputs
  pub states : length j.states ≡ length j.body.states
  pub sound : IsSound j.body
