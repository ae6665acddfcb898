use Rattle.std.proofs.Common.{◌≡◌, ◌+◌, length, take}
use Rattle.std.specs.List.{sum_by}
use Rattle.rig_model.specs.declared.config.TenantConfig.{TenantConfig}
use Rattle.host_core.proofs.new_tenants.places.Given as goal

abbrev pub invariant-loop-tenant : goal.invariant-loop-tenant
invariant-loop-tenant l = length l.places.items ≡ sum_by (λ (tenant : TenantConfig). tenant.budgets.binds) (take l.tenant-index l.tenant-items)

abbrev pub invariant-loop-bind : goal.invariant-loop-bind
invariant-loop-bind l = length l.places.items ≡ length l.initial.places.items + l._bind
