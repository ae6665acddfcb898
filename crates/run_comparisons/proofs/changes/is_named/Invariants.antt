use Rattle.std.proofs.Common.{◌≡◌, false}
use Rattle.std.specs.List.{list_any, range_with_len}
use Rattle.rig_retests.specs.Named.{names_of}
use Rattle.run_comparisons.specs.Changes.{calls_for}
use Rattle.run_comparisons.proofs.changes.is_named.Given as goal

abbrev pub invariant-loop-source : goal.invariant-loop-source
invariant-loop-source l = list_any (calls_for (names_of l.facts) l.changes l.tenant) (range_with_len 0 l.source) ≡ false
