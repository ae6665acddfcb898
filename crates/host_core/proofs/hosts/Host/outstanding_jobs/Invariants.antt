use Rattle.std.proofs.Common.{◌≡◌, take}
use Rattle.host_core.specs.HostStanding.{outstanding_from}
use Rattle.host_core.proofs.hosts.Host.outstanding_jobs.Given as goal

abbrev pub invariant-loop-tenant : goal.invariant-loop-tenant
invariant-loop-tenant l = l.names.items ≡ outstanding_from l.self-inside.finished.entries 0 (take l.tenant-index l.tenant-items)
