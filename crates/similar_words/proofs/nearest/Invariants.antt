use Rattle.std.proofs.Common.{◌≡◌, Bor, ℕ, List, ◌++◌, map}
use Rattle.std.specs.Option.{option_map}
use Rattle.similar_words.specs.Distances.{nearest_of}
use Rattle.similar_words.proofs.nearest.Given as goal

-- the words that were compared come last
abbrev pub invariant-loop-other : goal.invariant-loop-other
invariant-loop-other l = (last : List (Bor (List ℕ))) × (l.words ≡ l.other-iterator.iter.rest.now ++ last) × (option_map (λ w. w.now) l.found ≡ nearest_of l.word (map (λ w. w.now) last))
