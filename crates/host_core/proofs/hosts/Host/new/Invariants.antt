use Rattle.std.proofs.Common.{◌≡◌, take}
use Rattle.host_core.proofs.NewTenants.{new_tenants}
use Rattle.host_core.proofs.hosts.Host.new.Given as goal

abbrev pub invariant-loop-place : goal.invariant-loop-place
invariant-loop-place l = l.tenants.items ≡ take l.place (new_tenants l.first_tick l.config)
