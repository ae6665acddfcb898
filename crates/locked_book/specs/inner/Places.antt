-- The places of entries, one by one, and those of a window.
use Rattle.std.specs.Prelude.{◌≢◌, ◌<◌, ◌≤◌, ◌+◌, ◌-◌, ◌/◌, ◌%◌, ◌==◌, ℕ, min, nat_lt, Bool, false, if◌then◌else◌, List, length, map, slice_index_or, Option, Some, None}
use Rattle.std.specs.Int.{bit_at}
use Rattle.rig_model.specs.declared.logged.Logged.{Logged}

-- the place of an entry of the list
abbrev pub place_in : List (ℕ × Logged) → ℕ → ℕ
place_in entries i = slice_index_or (map (λ (e : ℕ × Logged). e.0) entries) i 0

-- no place from `from` on, and before `to`, is there twice
abbrev pub ApartWithin : List (ℕ × Logged) → ℕ → ℕ → Type 0
ApartWithin entries from to = (i j : ℕ) → i < j → j < length entries → from ≤ place_in entries j → place_in entries j < to → place_in entries i ≢ place_in entries j

-- no place from `from` on is there twice before the start of the next window, or at all if there is none
abbrev pub IsNextStart : List (ℕ × Logged) → ℕ → Option ℕ → Type 0
IsNextStart entries from None = (to : ℕ) → ApartWithin entries from to
IsNextStart entries from (Some start) = (from ≤ start) × ApartWithin entries from start

-- the least of a place and the one before, if there is one
abbrev pub least_with : Option ℕ → ℕ → ℕ
least_with None place = place
least_with (Some other) place = min other place

-- the place lies in the window that begins here
pub record InWindow (start place : ℕ) : Type 0 where
  pub behind : start ≤ place
  pub before : place < start + 524288

-- the mark of a place of the window, one bit; none outside
abbrev pub mark_of : List ℕ → ℕ → ℕ → Bool
mark_of marks start place = if nat_lt place start then false else bit_at (slice_index_or marks ((place - start) / 64) 0) ((place - start) % 64) == 1
