-- What a line of a session is, by its first word and the words after it.
use Rattle.std.proofs.Common.{◌≡◌, ℕ, zero, suc, ◌<◌, ◌==◌, Bool, true, false, if◌then◌else◌, is_some, List, [], ◌∷◌, length, Option, Some, None, codes, refl, ap, ◌∙◌, arith}
use Rattle.std.proofs.lemmas.Bool.Decides.{nat_tests}
use Rattle.std.specs.Option.{option_map}
use Rattle.giotto_tasks.specs.Names.{same_name}
use Rattle.giotto_tasks.proofs.cited.NameLemmas.{same_name_is}
use Rattle.rig_model.specs.text.Bytes.{is_name}
use Rattle.rig_model.specs.config.Roster.{Rig}
use Rattle.rig_model.specs.lines.CommandLine.{command_of_line}
use Rattle.rig_model.specs.lines.Words.{words_of, first_word_of, behind_first_word}
use Rattle.rig_model.specs.declared.lines.commands.Command.{Command}
use Rattle.rig_model.specs.lines.cited.Copies.{has_text}
use Rattle.rig_model.proofs.of_lines.WordLemmas.{words_first, words_none}
use Rattle.rig_model.specs.Sessions.{State, ask, blank, bye, ended, err_bad_command, err_not_greeted, form_step, hello, hello_of, line_of_words, quit, quit_of, says, session_line_of, stays_quiet, stranger, tenant}
use Rattle.rig_sessions.specs.inner.Steps.{IsCallWithText}

differs : (x y : List ℕ) → (x ≡ y → ⊥) → same_name x y ≡ false
differs x y other = by (same_name x y) refl
  where
    by : (b : Bool) → same_name x y ≡ b → same_name x y ≡ false
    by true e = absurd (other (same_name_is x y e))
    by false e = e

pub no_byte : (w : List ℕ) → length w ≡ 0 → w ≡ []
no_byte [] none = refl
no_byte (c ∷ cs) none = absurd (omega (arith, none))

pub some_word : (w : List ℕ) → 0 < length w → w ≡ [] → ⊥
some_word [] some is = omega (arith, some)
some_word (c ∷ cs) some is = cc

some_byte : (w : List ℕ) → (w ≡ [] → ⊥) → 0 < length w
some_byte [] other = absurd (other refl)
some_byte (c ∷ cs) other = omega arith

module _ (line : List ℕ) where
  -- a line without a word
  pub blank_line : first_word_of line ≡ [] → session_line_of line ≡ Some blank
  blank_line none = ap (line_of_words line) (words_none line (ap length none))

  pub hello_line : first_word_of line ≡ codes "hello" → session_line_of line ≡ hello_of (words_of (behind_first_word line))
  hello_line is = ap (line_of_words line) (words_first line (rw is (omega arith))) ∙ rw is refl

  pub quit_line : first_word_of line ≡ codes "quit" → session_line_of line ≡ quit_of (words_of (behind_first_word line))
  quit_line is = ap (line_of_words line) (words_first line (rw is (omega arith))) ∙ rw is refl

  pub other_line : (first_word_of line ≡ [] → ⊥) → (first_word_of line ≡ codes "hello" → ⊥) → (first_word_of line ≡ codes "quit" → ⊥)
      → session_line_of line ≡ option_map ask (command_of_line line)
  other_line some no_hello no_quit =
      ap (line_of_words line) (words_first line (some_byte (first_word_of line) some))
      ∙ rw (differs (first_word_of line) (codes "hello") no_hello, differs (first_word_of line) (codes "quit") no_quit) refl

-- there is no word after "quit"
pub quit_alone : (rest : List ℕ) → length (first_word_of rest) ≡ 0 → quit_of (words_of rest) ≡ Some quit
quit_alone rest none = ap quit_of (words_none rest none)

pub quit_refused : (rest : List ℕ) → 0 < length (first_word_of rest) → quit_of (words_of rest) ≡ None
quit_refused rest some = ap quit_of (words_first rest some)

-- by whether a text has a word
by_word : (line : List ℕ) (P : List (List ℕ) → Type 0) → (length (first_word_of line) ≡ 0 → P []) → (0 < length (first_word_of line) → P (first_word_of line ∷ words_of (behind_first_word line))) → P (words_of line)
by_word line P none some = by (length (first_word_of line)) refl
  where
    by : (n : ℕ) → length (first_word_of line) ≡ n → P (words_of line)
    by zero e = rw (words_none line e) (none e)
    by (suc n) e = let first : 0 < length (first_word_of line) = omega (arith, e) in rw (words_first line first) (some first)

name_has_byte : (w : List ℕ) → is_name w ≡ true → 0 < length w
name_has_byte [] is = absurd (cc)
name_has_byte (c ∷ cs) is = omega arith

-- after "hello": no name, no key, or both and the words after them
module _ (rest : List ℕ) where
  pub no_name : is_name (first_word_of rest) ≡ false → hello_of (words_of rest) ≡ None
  no_name bad = by_word rest (λ ws. hello_of ws ≡ None) (λ none. refl) (λ some. by (words_of (behind_first_word rest)))
    where
      by : (ws : List (List ℕ)) → hello_of (first_word_of rest ∷ ws) ≡ None
      by [] = refl
      by (key ∷ []) = rw bad refl
      by (key ∷ w ∷ ws) = refl

  pub no_key : length (first_word_of (behind_first_word rest)) ≡ 0 → hello_of (words_of rest) ≡ None
  no_key none = by_word rest (λ ws. hello_of ws ≡ None) (λ empty. refl) (λ some. ap (λ ws. hello_of (first_word_of rest ∷ ws)) (words_none (behind_first_word rest) none))

  pub name_and_key : is_name (first_word_of rest) ≡ true → 0 < length (first_word_of (behind_first_word rest))
      → hello_of (words_of rest) ≡ (if length (first_word_of (behind_first_word (behind_first_word rest))) == 0 then Some (hello (first_word_of rest) (first_word_of (behind_first_word rest))) else None)
  name_and_key good some =
      let behind = behind_first_word rest in
      let key = first_word_of behind in
      ap hello_of (words_first rest (name_has_byte (first_word_of rest) good) ∙ ap (λ ws. first_word_of rest ∷ ws) (words_first behind some))
      ∙ by_word (behind_first_word behind) (λ ws. hello_of (first_word_of rest ∷ key ∷ ws) ≡ (if length (first_word_of (behind_first_word behind)) == 0 then Some (hello (first_word_of rest) key) else None))
      (λ none. rw (good, none) refl)
      (λ more. let other : (length (first_word_of (behind_first_word behind)) == 0) ≡ false = grind (arith, nat_tests, more) in rw other refl)

-- a line of none of the forms
pub form_refused : (config : Rig) (s : State) → (s ≡ ended → ⊥) → form_step config s None ≡ says err_bad_command s
form_refused config stranger other = refl
form_refused config (tenant t) other = refl
form_refused config ended other = absurd (other refl)

pub form_blank : (config : Rig) (s : State) → form_step config s (Some blank) ≡ stays_quiet s
form_blank config stranger = refl
form_blank config (tenant t) = refl
form_blank config ended = refl

-- "quit"
pub form_quit : (config : Rig) (s : State) → (s ≡ ended → ⊥) → form_step config s (Some quit) ≡ says bye ended
form_quit config stranger other = refl
form_quit config (tenant t) other = refl
form_quit config ended other = absurd (other refl)

-- a command, if no tenant was greeted
pub form_unasked : (config : Rig) (c : Option Command) → form_step config stranger (option_map ask c) ≡ says (if is_some c then err_not_greeted else err_bad_command) stranger
form_unasked config None = refl
form_unasked config (Some c) = refl

-- a command with no memory for its text
pub text_found_no_memory : (config : Rig) (t : ℕ) (found : Option Command) → option_map has_text found ≡ Some true → IsCallWithText (form_step config (tenant t) (option_map ask found)) (tenant t)
text_found_no_memory config t None is = absurd (cc)
text_found_no_memory config t (Some c) is = (t, c, refl, cc)

pub some_command : (found : Option Command) → option_map has_text found ≡ Some true → is_some found ≡ true
some_command None is = absurd (cc)
some_command (Some c) is = refl
