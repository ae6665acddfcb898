-- At which places two lists of answers differ.
use Rattle.std.specs.Prelude.{ℕ, max, not, Bool, true, false, List, length, filter, Option, Some, None, option_map, slice_get}
use Rattle.std.specs.List.{range_with_len}
use Rattle.run_comparisons.specs.Alike.{are_alike}
use Rattle.run_comparisons.specs.Answers.{RunAnswer}

-- the reply at a place of a list, if the list is that long
abbrev pub reply_at : List RunAnswer → ℕ → Option (List ℕ)
reply_at answers place = option_map (λ (a : RunAnswer). a.reply) (slice_get answers place)

-- Whether two replies differ, with this tolerance. One that is missing differs from each other one.
abbrev pub are_different : ℕ → Option (List ℕ) → Option (List ℕ) → Bool
are_different tolerance None None = false
are_different tolerance None (Some reply) = true
are_different tolerance (Some reply) None = true
are_different tolerance (Some reply) (Some other) = not (are_alike tolerance reply other)

-- the length of the longer list
abbrev pub place_count : List RunAnswer → List RunAnswer → ℕ
place_count old new = max (length old) (length new)

module _ (tolerance : ℕ) (old new : List RunAnswer) where
  abbrev pub differ_at : ℕ → Bool
  differ_at place = are_different tolerance (reply_at old place) (reply_at new place)

  -- the places at which the lists differ, in ascending order
  abbrev pub differing_places : List ℕ
  differing_places = filter differ_at (range_with_len 0 (place_count old new))
