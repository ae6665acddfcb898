use Rattle.std.proofs.Common.{◌≡◌, map, take}
use Rattle.rig_model.specs.declared.config.TenantConfig.{TenantConfig}
use Rattle.host_core.proofs.new_tenants.roster.Given as goal

abbrev pub invariant-loop-tenant : goal.invariant-loop-tenant
invariant-loop-tenant l = l.names.items ≡ take l.tenant-index (map (λ (tenant : TenantConfig). tenant.name) l.tenant-items)
