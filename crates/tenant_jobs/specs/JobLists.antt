-- Jobs in the order of their release.
use Rattle.std.specs.Prelude.{ℕ, List}
use Rattle.tenant_jobs.specs.Jobs.{JobValue}

-- the jobs that wait to be computed, the oldest first
pub record JobList : Type 0 where
  pub jobs : List JobValue
  -- how many more jobs fit
  pub room : ℕ
