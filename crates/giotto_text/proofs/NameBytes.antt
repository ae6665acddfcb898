-- The shape of names.
use Rattle.std.proofs.Common.{◌≡◌, ℕ, ◌<◌, ◌&&◌, List, [], ◌∷◌, length, drop, get_or, refl, arith}
use Rattle.std.specs.Prelude.{nat_le}
use Rattle.std.specs.List.{list_all}
use Rattle.giotto_text.specs.Bytes.{is_letter, is_name_byte, is_name}

-- the test for a name, by its first byte and the rest
pub name_by_parts : (xs : List ℕ) → 0 < length xs → is_name xs ≡ (is_letter (get_or xs 0 0) && list_all is_name_byte (drop 1 xs) && nat_le (length xs) 32)
name_by_parts [] some = absurd (omega arith)
name_by_parts (c ∷ cs) some = refl
