-- Tokens that were cut from a text can be written.
use Rattle.std.specs.Prelude.{nat_le, Option}
use Rattle.std.proofs.Common.{◌≡◌, ℕ, zero, suc, ◌+◌, ◌-◌, ◌^◌, Bool, true, false, List, [], ◌∷◌, length, Some, None, Ok, Err, refl, ap, sym, ◌∙◌, subst, cond}
use Rattle.std.proofs.lemmas.Bool.{and_from, or_left}
use Rattle.std.proofs.lemmas.List.Sums.{list_all-from_AllPass, take_while-cons}
use Rattle.std.specs.List.{list_all, take_while}
use Rattle.std.specs.Str.Parse.{digits_value}
use Rattle.giotto_text.specs.declared.tokens.Keyword.{Keyword}
use Rattle.giotto_text.specs.declared.tokens.Symbol.{Symbol}
use Rattle.giotto_text.specs.declared.tokens.Token.{Token}
use Rattle.giotto_text.specs.declared.tokens.PlacedToken.{PlacedToken}
use Rattle.giotto_text.specs.Bytes.{is_digit, is_letter, is_name_byte, is_blank_of_text}
use Rattle.giotto_text.specs.Sound.{is_sound_token}
use Rattle.giotto_text.specs.Tokens.{FoundToken, first_token, word, number, mark, Tokens, after_token, tokens_from, tokens_of, bare, keyword_of, symbol_at}
use Rattle.giotto_text.proofs.Lexing.{run_passes}

abbrev IsSoundFound : FoundToken → Type 0
IsSoundFound None = Unit {0}
IsSoundFound (Some f) = is_sound_token f.0 ≡ true

abbrev AreSound : Tokens → Type 0
AreSound (Ok ts) = list_all is_sound_token (bare ts) ≡ true
AreSound (Err offset) = Unit {0}

word_sound : (c : ℕ) (run : List ℕ) → is_letter c ≡ true → list_all is_name_byte run ≡ true → IsSoundFound (word (c ∷ run))
word_sound c run letter bytes = by (keyword_of (c ∷ run)) refl (nat_le (length (c ∷ run)) 32) refl
  where
    by : (o : Option Keyword) → keyword_of (c ∷ run) ≡ o → (b : Bool) → nat_le (length (c ∷ run)) 32 ≡ b → IsSoundFound (word (c ∷ run))
    by (Some k) is b fits = rw is refl
    by None is false fits = rw is (rw fits tt)
    by None is true fits = rw is (rw fits (rw (letter, bytes, fits, is) refl))

number_sound : (run : List ℕ) → IsSoundFound (number run)
number_sound run = by (nat_le (length run) 19) refl (nat_le (digits_value 10 run) (2 ^ 63)) refl
  where
    by : (b : Bool) → nat_le (length run) 19 ≡ b → (d : Bool) → nat_le (digits_value 10 run) (2 ^ 63) ≡ d → IsSoundFound (number run)
    by false short d small = rw short tt
    by true short false small = rw (short, small) tt
    by true short true small = rw (short, small) small

mark_sound : (text : List ℕ) → IsSoundFound (mark text)
mark_sound text = by (symbol_at text) refl
  where
    by : (o : Option Symbol) → symbol_at text ≡ o → IsSoundFound (mark text)
    by None is = rw is tt
    by (Some s) is = rw is refl

pub word_begins : (c : ℕ) (cs : List ℕ) → is_letter c ≡ true → first_token (c ∷ cs) ≡ word (take_while is_name_byte (c ∷ cs))
word_begins c cs letter = rw letter refl

pub number_begins : (c : ℕ) (cs : List ℕ) → is_letter c ≡ false → is_digit c ≡ true → first_token (c ∷ cs) ≡ number (take_while is_digit (c ∷ cs))
number_begins c cs letter digit = rw (letter, digit) refl

mark_begins : (c : ℕ) (cs : List ℕ) → is_letter c ≡ false → is_digit c ≡ false → first_token (c ∷ cs) ≡ mark (c ∷ cs)
mark_begins c cs letter digit = rw (letter, digit) refl

-- a run of name bytes that begins with a letter
letter_first : (c : ℕ) (cs : List ℕ) → is_letter c ≡ true → take_while is_name_byte (c ∷ cs) ≡ c ∷ take_while is_name_byte cs
letter_first c cs letter =
    let byte : is_name_byte c ≡ true = or_left (is_letter c) (is_digit c) letter in
    take_while-cons is_name_byte c cs ∙ ap (λ b. cond b (c ∷ take_while is_name_byte cs) []) byte

first_sound : (text : List ℕ) → IsSoundFound (first_token text)
first_sound [] = tt
first_sound (c ∷ cs) = by (is_letter c) refl (is_digit c) refl
  where
    by : (l : Bool) → is_letter c ≡ l → (d : Bool) → is_digit c ≡ d → IsSoundFound (first_token (c ∷ cs))
    by true letter d digit =
        let run = take_while is_name_byte cs in
        let bytes = list_all-from_AllPass is_name_byte run (run_passes is_name_byte cs) in
        let is : first_token (c ∷ cs) ≡ word (c ∷ run) = word_begins c cs letter ∙ ap word (letter_first c cs letter) in
        subst IsSoundFound (sym is) (word_sound c run letter bytes)
    by false letter true digit = subst IsSoundFound (sym (number_begins c cs letter digit)) (number_sound (take_while is_digit (c ∷ cs)))
    by false letter false digit = subst IsSoundFound (sym (mark_begins c cs letter digit)) (mark_sound (c ∷ cs))

one_more : (t : Token) (offset : ℕ) (r : Tokens) → is_sound_token t ≡ true → AreSound r → AreSound (after_token t offset r)
one_more t offset (Ok ts) here rest = and_from (is_sound_token t) (list_all is_sound_token (bare ts)) here rest
one_more t offset (Err fault) here rest = tt

sound_from : (within offset : ℕ) (text : List ℕ) → AreSound (tokens_from within offset text)
sound_from within offset [] = refl
sound_from (suc within) offset (c ∷ cs) = sound_from within (offset + 1) cs
sound_from zero offset (c ∷ cs) = by (λ k. sound_from k (offset + 1) cs) (first_sound (c ∷ cs)) (is_blank_of_text c) refl (first_token (c ∷ cs)) refl
  where
    by : ((k : ℕ) → AreSound (tokens_from k (offset + 1) cs)) → IsSoundFound (first_token (c ∷ cs))
        → (b : Bool) → is_blank_of_text c ≡ b → (f : FoundToken) → first_token (c ∷ cs) ≡ f → AreSound (tokens_from 0 offset (c ∷ cs))
    by rest here true blank f is = rw blank (rest 0)
    by rest here false blank None is = rw (blank, is) tt
    by rest here false blank (Some f) is = rw (blank, is) (one_more f.0 offset (tokens_from (f.1 - 1) (offset + 1) cs) (subst IsSoundFound is here) (rest (f.1 - 1)))

pub tokens_sound : (text : List ℕ) (ts : List PlacedToken) → tokens_of text ≡ Ok ts → list_all is_sound_token (bare ts) ≡ true
tokens_sound text ts cut = subst AreSound cut (sound_from 0 0 text)
