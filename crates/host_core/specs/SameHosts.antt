-- When two hosts are the same.
use Rattle.std.specs.Prelude.{◌≡◌, List, map}
use Rattle.rig_model.specs.Row.{Row}
use Rattle.rig_model.specs.Tenancies.{Tenancy}
use Rattle.rig_model.specs.declared.jobs.JobId.{JobId}
use Rattle.instant_engine.specs.job_table.Finished.{has_result}
use Rattle.instant_engine.specs.state.Standing.{Standing}
use Rattle.host_core.specs.HostStanding.{HostStanding}

-- by what tenants are compared: place, roster and budgets, and the row
abbrev pub compared : Standing → Tenancy × Row
compared s = (s.tenancy, s.row)

-- Two hosts are the same: they have as many lines, the same names and budgets of tenants, the same rows, and the same counted jobs.
pub record IsSameHost (one other : HostStanding) : Type 0 where
  pub as_many_lines : one.config.lines ≡ other.config.lines
  pub equal_clocks : one.clock ≡ other.clock
  pub equal_tenants : map compared one.tenants ≡ map compared other.tenants
  pub equal_counted : (j : JobId) → has_result one.entries j ≡ has_result other.entries j
