use Rattle.std.proofs.Common.{◌≡◌, map}
use Rattle.std.specs.List.{range_with_len}
use Rattle.run_comparisons.specs.Changes.{change_of}
use Rattle.run_comparisons.proofs.changes.changes_of.Given as goal

abbrev pub invariant-loop-tenant : goal.invariant-loop-tenant
invariant-loop-tenant l = l.changes.items ≡ map (change_of l.tolerance l.old l.new) (range_with_len 0 l.tenant)
