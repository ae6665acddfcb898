-- The bytes of a text that its copies share.
use Rattle.std.specs.Arc.{arc_str_bytes}
use Rattle.std.specs.Prelude.{List, ℕ, [], Option, None, Some}
use Rattle.std.specs.declared.sync.ArcStr.{ArcStr}

-- the bytes in this place, and none if there is no place
abbrev pub bytes_in : {A : Type 0} → Option (ArcStr A) → List ℕ
bytes_in None = []
bytes_in (Some text) = arc_str_bytes text
