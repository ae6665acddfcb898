-- Connections in which no tenant was greeted yet.
use Rattle.std.specs.Prelude.{ℕ, ◌+◌, ◌==◌, List, ◌++◌, drop, take, Option, Some, None}
use Rattle.std.specs.List.{position}

-- where the first of these places is that is this one
abbrev pub first_of : ℕ → List ℕ → Option ℕ
first_of place places = position (λ other. place == other) places

-- a list without the element at this place, if there is one
abbrev pub without_at : Option ℕ → List ℕ → List ℕ
without_at None places = places
without_at (Some at) places = take at places ++ drop (at + 1) places

-- these places without the first that is this one
abbrev pub without : ℕ → List ℕ → List ℕ
without place places = without_at (first_of place places) places
