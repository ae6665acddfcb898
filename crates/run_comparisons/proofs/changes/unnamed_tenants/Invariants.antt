use Rattle.std.proofs.Common.{◌≡◌}
use Rattle.std.specs.List.{filter, range_with_len}
use Rattle.rig_retests.specs.Named.{names_of}
use Rattle.run_comparisons.specs.Changes.{is_unnamed}
use Rattle.run_comparisons.proofs.changes.unnamed_tenants.Given as goal

abbrev pub invariant-loop-tenant : goal.invariant-loop-tenant
invariant-loop-tenant l = l.tenants.items ≡ filter (is_unnamed (names_of l.facts) l.changes l.scope) (range_with_len 0 l.tenant)
