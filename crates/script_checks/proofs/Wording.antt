-- The words about lines that are not commands.
use Rattle.std.proofs.Common.{◌≡◌, ◌++◌, ◌==◌, ℕ, true, false, List, [], ◌∷◌, length, codes, refl}
use Rattle.script_checks.specs.LineTexts.{has_forms, words_of_command}

pub known_word : (speaker word : List ℕ) → (length word == 0) ≡ false → has_forms speaker word ≡ true → words_of_command speaker word ≡ codes "this is none of the forms of `" ++ (word ++ codes "`")
known_word speaker [] some known = absurd (cc)
known_word speaker (c ∷ cs) some known = rw known refl

pub unknown_word : (speaker word : List ℕ) → (length word == 0) ≡ false → has_forms speaker word ≡ false → words_of_command speaker word ≡ codes "`" ++ (word ++ codes "` is no command")
unknown_word speaker [] some known = absurd (cc)
unknown_word speaker (c ∷ cs) some known = rw known refl
