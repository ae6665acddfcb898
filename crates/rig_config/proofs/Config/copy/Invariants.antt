use Rattle.std.proofs.Common.{◌≡◌, take}
use Rattle.rig_config.proofs.Config.copy.Given as goal

abbrev pub invariant-loop-tenant : goal.invariant-loop-tenant
invariant-loop-tenant l = l.tenants.items ≡ take l.tenant-index l.tenant-items
