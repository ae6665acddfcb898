use Rattle.std.proofs.Common.{◌≡◌}
use Rattle.std.specs.List.{filter, range_with_len}
use Rattle.run_comparisons.specs.Changes.{change_at}
use Rattle.run_comparisons.proofs.changes.changed_tenants.Given as goal

abbrev pub invariant-loop-tenant : goal.invariant-loop-tenant
invariant-loop-tenant l = l.tenants.items ≡ filter (λ t. (change_at l.changes t).lines) (range_with_len 0 l.tenant)
