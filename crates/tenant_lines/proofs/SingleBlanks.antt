-- The command of a line that asks for a port without a task, with one blank between its words.
use Rattle.std.proofs.Common.{◌≡◌, ℕ, ◌&&◌, Bool, true, false, if◌then◌else◌, List, [], ◌∷◌, ◌++◌, Option, Some, None, IfSome, take, drop, codes, refl, ap, sym, ◌∙◌, arith}
use Rattle.std.proofs.lemmas.Bool.{and_parts}
use Rattle.std.proofs.lemmas.Bool.Decides.{nat_tests}
use Rattle.std.proofs.lemmas.List.{take-append-drop}
use Rattle.std.specs.List.{list_all, prefix_len, take_while}
use Rattle.std.specs.Prelude.{nat_le, length}
use Rattle.giotto_tasks.specs.Names.{same_name}
use Rattle.giotto_tasks.proofs.cited.NameLemmas.{same_name_is}
use Rattle.giotto_text.specs.Bytes.{is_letter, is_name, is_name_byte}
use Rattle.tenant_lines.specs.declared.commands.Command.TheVariants.{ShowPort}
use Rattle.tenant_lines.specs.CommandLine.{command_of_line}
use Rattle.tenant_lines.specs.Words.{is_blank_of_line, is_word_byte, joined_to_first, words_of, from_first_word, first_word_of, behind_first_word}
use Rattle.tenant_lines.proofs.CommandLines.{words_begin}

letter_in_word : (c : ℕ) → is_letter c ≡ true → is_blank_of_line c ≡ false
letter_in_word c e = grind (arith, nat_tests, e)

byte_in_word : (c : ℕ) → is_name_byte c ≡ true → is_blank_of_line c ≡ false
byte_in_word c e = grind (arith, nat_tests, e)

-- bytes of a name are one word
one_word : (c : ℕ) (cs : List ℕ) → is_blank_of_line c ≡ false → list_all is_name_byte cs ≡ true → words_of (c ∷ cs) ≡ (c ∷ cs) ∷ []
one_word c [] no_blank all = rw no_blank refl
one_word c (d ∷ ds) no_blank all =
    let both = and_parts (is_name_byte d) (list_all is_name_byte ds) all in
    let next = byte_in_word d both.0 in
    rw (no_blank, next) (ap (joined_to_first c) (sym (rw next refl) ∙ one_word d ds next both.1))

-- a name is one word
name_alone : (name : List ℕ) → is_name name ≡ true → words_of name ≡ name ∷ []
name_alone [] e = absurd (cc)
name_alone (c ∷ cs) e =
    let all = and_parts (is_letter c && list_all is_name_byte cs) (nat_le (length (c ∷ cs)) 32) e in
    let bytes = and_parts (is_letter c) (list_all is_name_byte cs) all.0 in
    one_word c cs (letter_in_word c bytes.0) bytes.1

-- the words "show" and "port" and a name, with one blank between them
pub port_asked : (line name : List ℕ) → from_first_word line ≡ codes "show port " ++ name → is_name name ≡ true
    → command_of_line line ≡ Some (ShowPort (record { task = None; name = name }))
port_asked line name begins is =
    let first : first_word_of line ≡ codes "show" = ap (take_while is_word_byte) begins in
    let behind : behind_first_word line ≡ codes " port " ++ name = ap (λ from. drop (prefix_len is_word_byte from) from) begins in
    let words : words_of line ≡ codes "show" ∷ codes "port" ∷ name ∷ [] =
    words_begin line (codes "show") first (omega arith) ∙ ap (λ rest. codes "show" ∷ words_of rest) behind ∙ ap (λ ws. codes "show" ∷ codes "port" ∷ ws) (name_alone name is) in
    rw (first, words, is) refl

-- a line that was cut after those words
pub port_named : (line from words name : List ℕ) (named : Option (List ℕ)) → from ≡ from_first_word line → words ≡ take 10 from → name ≡ drop 10 from
    → true ≡ same_name words (codes "show port ") → named ≡ (if is_name name then Some name else None)
    → IfSome named (λ x. command_of_line line ≡ Some (ShowPort (record { task = None; name = x })))
port_named line from words name named is_from is_words is_name_behind same is = by (is_name name) refl is
  where
    begins : from_first_word line ≡ codes "show port " ++ name
    begins =
        sym is_from ∙ sym (take-append-drop 10 from) ∙ ap (λ t. t ++ drop 10 from) (sym is_words ∙ same_name_is words (codes "show port ") (sym same))
        ∙ ap (λ d. codes "show port " ++ d) (sym is_name_behind)

    by : (b : Bool) → is_name name ≡ b → named ≡ (if b then Some name else None) → IfSome named (λ x. command_of_line line ≡ Some (ShowPort (record { task = None; name = x })))
    by true e some = rw some (port_asked line name begins e)
    by false e none = rw none tt
