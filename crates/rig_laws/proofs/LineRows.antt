-- Bytes, their lines and the answers to them, computed from the definitions.
use Rattle.std.proofs.Common.{◌≡◌, ◌+◌, [], ◌∷◌, ◌++◌, Some, None, refl}
use Rattle.std.specs.Prelude.{codes}
use Rattle.std.specs.Char.{encode_utf8}
use Rattle.std.specs.Str.{chars, is_utf8}
use Rattle.rig_model.specs.Answered.{answered}
use Rattle.rig_model.specs.TextLines.{cut, text_of_line}

no_lines : cut [] ≡ []
no_lines = refl

last_lf_ends_a_line : cut (97 ∷ 10 ∷ []) ≡ (97 ∷ []) ∷ []
last_lf_ends_a_line = refl

last_line_needs_no_lf : cut (97 ∷ 10 ∷ 98 ∷ []) ≡ (97 ∷ []) ∷ (98 ∷ []) ∷ []
last_line_needs_no_lf = refl

blank_lines : cut (10 ∷ 97 ∷ 10 ∷ 10 ∷ []) ≡ [] ∷ (97 ∷ []) ∷ [] ∷ []
blank_lines = refl

one_cr_is_taken_off : text_of_line (97 ∷ 13 ∷ 13 ∷ []) ≡ Some (97 ∷ 13 ∷ [])
unfolding is_utf8 chars encode_utf8
one_cr_is_taken_off = refl

a_cr_is_a_blank_line : text_of_line (13 ∷ []) ≡ Some []
unfolding is_utf8 chars encode_utf8
a_cr_is_a_blank_line = refl

half_a_character_is_no_text : text_of_line (97 ∷ 0xc3 ∷ []) ≡ None
unfolding is_utf8 chars encode_utf8
half_a_character_is_no_text = refl

-- the answer to a line is the number of lines so far and the line
a_bad_line_ends : answered (λ n line. (48 + n) ∷ line) (λ n line. n + 1) 0 (cut (97 ∷ 10 ∷ 13 ∷ 10 ∷ 98 ∷ 10 ∷ 0xff ∷ 10 ∷ 99 ∷ [])) ≡ (48 ∷ 97 ∷ 49 ∷ 50 ∷ 98 ∷ []) ++ codes "host bye bad-line" ++ 10 ∷ []
unfolding is_utf8 chars encode_utf8
a_bad_line_ends = refl
