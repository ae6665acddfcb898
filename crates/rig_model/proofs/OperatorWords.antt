-- An operator's line, by its first word and the words after it.
use Rattle.std.proofs.Common.{◌≡◌, ℕ, zero, suc, ◌<◌, ◌==◌, Bool, true, false, if◌then◌else◌, List, [], ◌∷◌, length, codes, refl, ap, ◌∙◌, arith}
use Rattle.std.proofs.lemmas.Bool.Decides.{nat_tests}
use Rattle.giotto_tasks.specs.Names.{same_name}
use Rattle.giotto_tasks.proofs.cited.NameLemmas.{same_name_is}
use Rattle.giotto_rules.specs.text.Bytes.{is_name}
use Rattle.tenant_lines.specs.Words.{words_of, first_word_of, behind_first_word}
use Rattle.tenant_lines.proofs.cited.WordLemmas.{words_first, words_none}
use Rattle.rig_model.specs.OperatorLines.{OperatorForm, operator_line_of, blank, line_values, work, work_of, settle, archive, halt, bad_command}

differs : (x y : List ℕ) → (x ≡ y → ⊥) → same_name x y ≡ false
differs x y other = by (same_name x y) refl
  where
    by : (b : Bool) → same_name x y ≡ b → same_name x y ≡ false
    by true e = absurd (other (same_name_is x y e))
    by false e = e

some_byte : (w : List ℕ) → (w ≡ [] → ⊥) → 0 < length w
some_byte [] other = absurd (other refl)
some_byte (c ∷ cs) other = omega arith

module _ (line : List ℕ) where
  -- the words of a line with this first word
  pub words_with : (w : List ℕ) → first_word_of line ≡ w → 0 < length w → words_of line ≡ w ∷ words_of (behind_first_word line)
  words_with w is some = words_first line (rw is some) ∙ ap (λ v. v ∷ words_of (behind_first_word line)) is

  pub blank_line : first_word_of line ≡ [] → operator_line_of (words_of line) ≡ blank
  blank_line none = ap operator_line_of (words_none line (ap length none))

  -- a line that begins with another word
  pub other_line : (first_word_of line ≡ [] → ⊥) → same_name (first_word_of line) (codes "tick") ≡ false → same_name (first_word_of line) (codes "lines") ≡ false
      → same_name (first_word_of line) (codes "work") ≡ false → (first_word_of line ≡ codes "wait" → ⊥) → (first_word_of line ≡ codes "archive" → ⊥)
      → (first_word_of line ≡ codes "halt" → ⊥) → operator_line_of (words_of line) ≡ bad_command
  other_line some no_tick no_lines no_work no_wait no_archive no_halt =
      ap operator_line_of (words_first line (some_byte (first_word_of line) some))
      ∙ rw (
        no_tick,
        no_lines,
        no_work,
        differs (first_word_of line) (codes "wait") no_wait,
        differs (first_word_of line) (codes "archive") no_archive,
        differs (first_word_of line) (codes "halt") no_halt,
      ) refl

-- a line of one word
module _ (w : List ℕ) (l : OperatorForm) (one : operator_line_of (w ∷ []) ≡ l) (more : (x : List ℕ) (xs : List (List ℕ)) → operator_line_of (w ∷ x ∷ xs) ≡ bad_command) (rest : List ℕ) where
  alone_line : (if (length (first_word_of rest) == 0) then l else bad_command) ≡ operator_line_of (w ∷ words_of rest)
  alone_line = by (length (first_word_of rest)) refl
    where
      by : (n : ℕ) → length (first_word_of rest) ≡ n → (if (length (first_word_of rest) == 0) then l else bad_command) ≡ operator_line_of (w ∷ words_of rest)
      by zero e = rw (words_none rest e, e, one) refl
      by (suc n) e =
          let some : 0 < length (first_word_of rest) = omega (arith, e) in
          let no : (length (first_word_of rest) == 0) ≡ false = grind (arith, nat_tests, some) in
          rw (words_first rest some, no, more (first_word_of rest) (words_of (behind_first_word rest))) refl

pub lines_line : (rest : List ℕ) → (if (length (first_word_of rest) == 0) then line_values else bad_command) ≡ operator_line_of (codes "lines" ∷ words_of rest)
lines_line = alone_line (codes "lines") line_values refl (λ x xs. refl)

pub wait_line : (rest : List ℕ) → (if (length (first_word_of rest) == 0) then settle else bad_command) ≡ operator_line_of (codes "wait" ∷ words_of rest)
wait_line = alone_line (codes "wait") settle refl (λ x xs. refl)

pub archive_line : (rest : List ℕ) → (if (length (first_word_of rest) == 0) then archive else bad_command) ≡ operator_line_of (codes "archive" ∷ words_of rest)
archive_line = alone_line (codes "archive") archive refl (λ x xs. refl)

pub halt_line : (rest : List ℕ) → (if (length (first_word_of rest) == 0) then halt else bad_command) ≡ operator_line_of (codes "halt" ∷ words_of rest)
halt_line = alone_line (codes "halt") halt refl (λ x xs. refl)

-- what comes after `work`
module _ (rest : List ℕ) (some : 0 < length (first_word_of rest)) where
  -- a tenant's name
  pub work_with_name : is_name (first_word_of rest) ≡ true → length (first_word_of (behind_first_word rest)) ≡ 0 → operator_line_of (codes "work" ∷ words_of rest) ≡ work_of (first_word_of rest)
  work_with_name name short =
      ap (λ ws. operator_line_of (codes "work" ∷ ws)) (words_first rest some ∙ ap (λ ws. first_word_of rest ∷ ws) (words_none (behind_first_word rest) short)) ∙ rw name refl

  -- a word that is no name
  pub work_with_no_name : is_name (first_word_of rest) ≡ false → operator_line_of (codes "work" ∷ words_of rest) ≡ bad_command
  work_with_no_name name = ap (λ ws. operator_line_of (codes "work" ∷ ws)) (words_first rest some) ∙ by (words_of (behind_first_word rest))
    where
      by : (ws : List (List ℕ)) → operator_line_of (codes "work" ∷ first_word_of rest ∷ ws) ≡ bad_command
      by [] = rw name refl
      by (x ∷ xs) = refl

  -- two words
  pub work_with_more : 0 < length (first_word_of (behind_first_word rest)) → operator_line_of (codes "work" ∷ words_of rest) ≡ bad_command
  work_with_more more =
      ap (λ ws. operator_line_of (codes "work" ∷ ws)) (words_first rest some ∙ ap (λ ws. first_word_of rest ∷ ws) (words_first (behind_first_word rest) more))
