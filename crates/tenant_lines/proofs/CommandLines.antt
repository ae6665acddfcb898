-- The command of a line, by its first word and what follows it.
use Rattle.std.proofs.Common.{◌≡◌, ℕ, zero, suc, ◌<◌, ◌==◌, Bool, true, false, List, [], ◌∷◌, length, Some, None, codes, refl, ap, sym, ◌∙◌, arith}
use Rattle.std.proofs.lemmas.Bool.{false≢true}
use Rattle.std.proofs.lemmas.Bool.Decides.{nat_tests}
use Rattle.std.specs.Bool.{then_some}
use Rattle.std.specs.Option.{option_map}
use Rattle.giotto_tasks.specs.Names.{same_name}
use Rattle.giotto_tasks.proofs.cited.NameLemmas.{same_name_is, same_name_self}
use Rattle.tenant_lines.specs.declared.commands.Command.{Command}
use Rattle.tenant_lines.specs.declared.commands.Command.TheVariants.{ShowPort, Grants}
use Rattle.tenant_lines.specs.declared.ports.PortName.{PortName}
use Rattle.tenant_lines.specs.CommandLine.{alone, command_of_line, command_of_words, port_of_word, port_shown_by, shown_by}
use Rattle.tenant_lines.specs.GrantLines.{grant_command_of_words}
use Rattle.tenant_lines.specs.Words.{words_of, first_word_of, behind_first_word}
use Rattle.tenant_lines.specs.inner.CutLines.{words_from}
use Rattle.tenant_lines.proofs.cited.WordLemmas.{words_first, words_none}

-- by cases on whether a line has a word
pub by_word : (line : List ℕ) (P : List (List ℕ) → Type 0)
    → (length (first_word_of line) ≡ 0 → P [])
    → (0 < length (first_word_of line) → P (first_word_of line ∷ words_of (behind_first_word line)))
    → P (words_of line)
by_word line P none some = by (length (first_word_of line)) refl
  where
    by : (n : ℕ) → length (first_word_of line) ≡ n → P (words_of line)
    by zero e = rw (words_none line e) (none e)
    by (suc n) e = let first : 0 < length (first_word_of line) = omega (arith, e) in rw (words_first line first) (some first)

-- no word after the command
pub alone_by_word : (c : Command) (rest : List ℕ) → alone c (words_of rest) ≡ then_some (length (first_word_of rest) == 0) c
alone_by_word c rest = by_word rest (λ ws. alone c ws ≡ then_some (length (first_word_of rest) == 0) c)
    (λ none. rw none refl)
    (λ some. let not_none : (length (first_word_of rest) == 0) ≡ false = grind (arith, nat_tests, some) in rw not_none refl)

-- no name of a port after "show port"
pub no_port_shown : (rest : List ℕ) → port_of_word (first_word_of rest) ≡ None → port_shown_by (words_of rest) ≡ None
no_port_shown rest bad = by_word rest (λ ws. port_shown_by ws ≡ None) (λ none. refl) (λ some. rw bad refl)

word_has_byte : (x : PortName) (w : List ℕ) → port_of_word w ≡ Some x → 0 < length w
word_has_byte x [] e = absurd (cc)
word_has_byte x (c ∷ cs) e = omega arith

-- the name of a port, and what follows it
pub port_shown : (x : PortName) (rest : List ℕ) → port_of_word (first_word_of rest) ≡ Some x
    → port_shown_by (words_of rest) ≡ alone (ShowPort x) (words_of (behind_first_word rest))
port_shown x rest is = rw (words_first rest (word_has_byte x (first_word_of rest) is), is) refl

-- the first word and the rest
pub words_begin : (line w : List ℕ) → first_word_of line ≡ w → 0 < length w → words_of line ≡ w ∷ words_of (behind_first_word line)
words_begin line w e some = words_first line (rw e some) ∙ ap (λ v. v ∷ words_of (behind_first_word line)) e

-- two words that are not equal
pub not_same : (x y : List ℕ) → (x ≡ y → ⊥) → same_name x y ≡ false
not_same x y differ = by (same_name x y) refl
  where
    by : (b : Bool) → same_name x y ≡ b → same_name x y ≡ false
    by true e = absurd (differ (same_name_is x y e))
    by false e = e

-- two words that the test finds different
pub differ : (x y : List ℕ) → false ≡ same_name x y → x ≡ y → ⊥
differ x y other is = false≢true (other ∙ ap (same_name x) (sym is) ∙ same_name_self x)

-- no other word follows "show"
pub others_shown : (rest : List ℕ) → (first_word_of rest ≡ codes "mode" → ⊥) → (first_word_of rest ≡ codes "all" → ⊥) → (first_word_of rest ≡ codes "port" → ⊥)
    → shown_by (words_of rest) ≡ None
others_shown rest no_mode no_all no_port = by_word rest (λ ws. shown_by ws ≡ None) (λ none. refl)
    (λ some. rw (not_same (first_word_of rest) (codes "mode") no_mode, not_same (first_word_of rest) (codes "all") no_all, not_same (first_word_of rest) (codes "port") no_port) refl)

-- a line that begins with another word is a command about grants, or none
pub other_words : (word rest : List ℕ)
    → (word ≡ codes "start" → ⊥) → (word ≡ codes "stop" → ⊥) → (word ≡ codes "show" → ⊥) → (word ≡ codes "trace" → ⊥)
    → command_of_words (words_from word rest) ≡ option_map Grants (grant_command_of_words (words_from word rest))
other_words [] rest no_start no_stop no_show no_trace = refl
other_words (c ∷ cs) rest no_start no_stop no_show no_trace =
    rw (not_same (c ∷ cs) (codes "start") no_start, not_same (c ∷ cs) (codes "stop") no_stop, not_same (c ∷ cs) (codes "show") no_show, not_same (c ∷ cs) (codes "trace") no_trace) refl

-- the words of a line that was cut
pub cut_words : (line : List ℕ) → words_of line ≡ words_from (first_word_of line) (behind_first_word line)
cut_words line = by_word line (λ ws. ws ≡ words_from (first_word_of line) (behind_first_word line)) none some
  where
    none : length (first_word_of line) ≡ 0 → [] ≡ words_from (first_word_of line) (behind_first_word line)
    none e = by (first_word_of line) e
      where
        by : (w : List ℕ) → length w ≡ 0 → [] ≡ words_from w (behind_first_word line)
        by [] is = refl
        by (c ∷ cs) is = absurd (omega (arith, is))

    some : 0 < length (first_word_of line) → first_word_of line ∷ words_of (behind_first_word line) ≡ words_from (first_word_of line) (behind_first_word line)
    some lt = by (first_word_of line) lt
      where
        by : (w : List ℕ) → 0 < length w → w ∷ words_of (behind_first_word line) ≡ words_from w (behind_first_word line)
        by [] is = absurd (omega (arith, is))
        by (c ∷ cs) is = refl

-- a line that begins with neither "load" nor "replace" is a command without a text, or none
pub words_alone : (line : List ℕ) → (first_word_of line ≡ codes "load" → ⊥) → (first_word_of line ≡ codes "replace" → ⊥)
    → command_of_line line ≡ command_of_words (words_of line)
words_alone line no_load no_replace =
    rw (not_same (first_word_of line) (codes "load") no_load, not_same (first_word_of line) (codes "replace") no_replace) refl
