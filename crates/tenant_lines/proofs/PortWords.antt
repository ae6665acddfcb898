-- The name of a port, by the place of the dot in its word.
use Rattle.std.proofs.Common.{◌≡◌, ℕ, ◌<◌, true, false, List, [], ◌∷◌, length, refl, arith}
use Rattle.std.proofs.lemmas.Bool.Decides.{nat_tests}
use Rattle.std.specs.List.{list_all, position_or_len, before_first, after_first}
use Rattle.giotto_text.specs.Bytes.{is_name, is_name_byte}
use Rattle.tenant_lines.specs.CommandLine.{own_port_of, port_of_word}
use Rattle.tenant_lines.specs.Words.{is_dot}

-- no byte of a name is a dot
dot_in_no_name : (c : ℕ) → is_name_byte c ≡ true → is_dot c ≡ false
dot_in_no_name c e = grind (arith, nat_tests, e)

no_dot : (cs : List ℕ) → list_all is_name_byte cs ≡ true → position_or_len is_dot cs ≡ length cs
no_dot [] e = refl
no_dot (c ∷ cs) e = grind (arith, nat_tests, e, no_dot cs, dot_in_no_name c)

-- so a word with a dot isn't a name
pub dotted_is_no_name : (w : List ℕ) → position_or_len is_dot w < length w → is_name w ≡ false
dotted_is_no_name [] dot = refl
dotted_is_no_name (c ∷ cs) dot = grind (arith, nat_tests, dot, no_dot cs, dot_in_no_name c)

-- a word with a dot, by its two parts
pub port_of_parts : (w : List ℕ) → position_or_len is_dot w < length w → port_of_word w ≡ own_port_of (before_first is_dot w) (after_first is_dot w)
port_of_parts w dot = rw (dotted_is_no_name w dot) refl
