use Rattle.std.proofs.Common.{◌≡◌, ◌++◌, take, string_bytes}
use Rattle.std.specs.List.{flat_map}
use Rattle.config_checks.specs.Summaries.{rows_of_tenant}
use Rattle.config_checks.proofs.summaries.add_tenants.Given as goal

abbrev pub invariant-loop-tenant : goal.invariant-loop-tenant
invariant-loop-tenant l = string_bytes l.told ≡ string_bytes l.initial.told ++ flat_map rows_of_tenant (take l.tenant-index l.tenants)
