-- The active tasks of a tenant's code.
use Rattle.std.specs.Prelude.{ℕ, List}
use Rattle.tenant_state.specs.declared.tenants.Active.{Active}

-- the active tasks in the order of their release, those that ended since, and how many more fit
pub record TaskList : Type 0 where
  pub items : List Active
  pub ended : List Active
  pub room : ℕ
