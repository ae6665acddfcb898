-- The rows of a host's tenants: in its fields, in its value, and in the state that it represents.
use Rattle.std.proofs.Common.{◌≡◌, ◌<◌, ℕ, length, map, get_or, ap, sym, subst}
use Rattle.rig_model.specs.config.Roster.{Rig}
use Rattle.instant_engine.specs.Tenants.{tenant_at}
use Rattle.instant_engine.specs.state.Standing.{Standing, at_rest, with_last}
use Rattle.rig_model.specs.Row.{Row}
use Rattle.host_core.specs.HostStanding.{HostStanding, Stands}
use Rattle.rig_model.specs.HostState.{HostState, row_at}
use Rattle.rig_model.specs.Base.{Setting}
use Rattle.host_core.proofs.AtRest.{here_at_rest}

-- a tenant's row, as the host's value has it
pub here_row : (host view : HostStanding) (t : ℕ) (x : Standing) → record host { tenants = map at_rest host.tenants } ≡ view → t < length host.tenants → x ≡ get_or host.tenants t x
    → x.row ≡ (tenant_at view.tenants t).row
here_row host view t x is lt here = sym (ap (λ (s : Standing). s.row) (here_at_rest host view t x is lt here))

-- the same row, with its last records, as the state that the host represents has it
pub same_row : (setting : Setting) (host : HostStanding) (state : HostState) → Stands setting host state → (t : ℕ) → t < length host.config.tenants
    → (tenant_at host.tenants t).row ≡ with_last (tenant_at host.tenants t).tenancy.budgets.trace (row_at state t)
same_row setting host state stands t lt = stands.each t (subst (λ (k : Rig). t < length k.tenants) stands.same_config lt)
