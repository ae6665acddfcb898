-- The characters of a text, one character further.
use Rattle.std.proofs.Common.{◌≡◌, ℕ, List, [], ◌∷◌, ◌++◌, sym, ap, ◌∙◌, append_assoc, append-nil}
use Rattle.std.proofs.lemmas.Str.{encodes-append}
use Rattle.std.specs.Char.{encode_utf8}
use Rattle.std.specs.Str.{encode_utf8_all}

pub further : (before : List ℕ) (c : ℕ) (rest later text : List ℕ) → rest ≡ encode_utf8 c ++ later → encode_utf8_all before ++ rest ≡ text → encode_utf8_all (before ++ c ∷ []) ++ later ≡ text
further before c rest later text is all =
    ap (λ t. t ++ later) (encodes-append before (c ∷ [])) ∙ (append_assoc (encode_utf8_all before) (encode_utf8_all (c ∷ [])) later
    ∙ (ap (λ t. encode_utf8_all before ++ (t ++ later)) (append-nil (encode_utf8 c)) ∙ (ap (λ t. encode_utf8_all before ++ t) (sym is) ∙ all)))
