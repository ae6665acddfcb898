use Rattle.std.proofs.Common.{◌≡◌, ◌+◌, ◌≤◌, not, length, take}
use Rattle.std.specs.List.{suffix_len}
use Rattle.run_comparisons.specs.Alike.{is_mark}
use Rattle.run_comparisons.proofs.alike.mark_end.Given as goal

abbrev pub invariant-loop-end : goal.invariant-loop-end
invariant-loop-end l = (l.end ≤ length l.word) × (l.end + suffix_len (λ c. not (is_mark c)) l.word ≡ length l.word + suffix_len (λ c. not (is_mark c)) (take l.end l.word))

abbrev pub decreases-loop-end : goal.decreases-loop-end
decreases-loop-end l = l.end
