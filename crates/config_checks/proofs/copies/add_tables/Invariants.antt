use Rattle.std.proofs.Common.{◌≡◌, ◌++◌, take, string_bytes}
use Rattle.std.specs.List.{flat_map}
use Rattle.config_checks.specs.Copies.{table_for}
use Rattle.config_checks.proofs.copies.add_tables.Given as goal

abbrev pub invariant-loop-tenant : goal.invariant-loop-tenant
invariant-loop-tenant l = string_bytes l.text ≡ string_bytes l.initial.text ++ flat_map (table_for l.supplier) (take l.tenant-index l.tenants)
