-- The bytes before a token of a text are ASCII, and so are those before the fault of a text without tokens. So the text can be
-- cut there.
use Rattle.std.specs.Prelude.{nat_lt, nat_eq, Option}
use Rattle.std.proofs.Common.{◌≡◌, ℕ, zero, suc, ◌+◌, ◌-◌, ◌^◌, ◌<◌, Bool, true, false, ◌&&◌, List, [], ◌∷◌, ◌++◌, length, take, cond, Some, None, Ok, Err, refl, ap, sym, ◌∙◌, subst, arith, lit<}
use Rattle.std.proofs.lemmas.Bool.{and_parts, and_from}
use Rattle.std.proofs.lemmas.Bool.Decides.{nat_tests}
use Rattle.std.proofs.lemmas.List.Sums.{take_while-cons}
use Rattle.std.specs.List.{list_all, take_while, find, starts_with}
use Rattle.std.specs.Str.Parse.{digits_value}
use Rattle.std.specs.Prelude.{nat_le}
use Rattle.giotto_read.specs.text.Bytes.{is_blank_of_text, is_digit, is_letter, is_name_byte}
use Rattle.giotto_read.specs.declared.text.tokens.Keyword.{Keyword}
use Rattle.giotto_read.specs.declared.text.tokens.Symbol.{Symbol}
use Rattle.giotto_read.specs.declared.text.tokens.Symbol.TheVariants.{Becomes}
use Rattle.giotto_read.specs.declared.text.tokens.Token.{Token}
use Rattle.giotto_read.specs.declared.text.tokens.PlacedToken.{PlacedToken}
use Rattle.giotto_read.specs.text.Tokens.{FoundToken, first_token, word, number, mark, keyword_of, symbol_at, all_symbols, text_of_symbol, Tokens, after_token, tokens_from, tokens_of}

abbrev pub is_ascii : ℕ → Bool
is_ascii c = nat_lt c 128

abbrev pub are_ascii : List ℕ → Bool
are_ascii = list_all is_ascii

letter_ascii : (c : ℕ) → is_letter c ≡ true → is_ascii c ≡ true
letter_ascii c e = grind (arith, nat_tests)

digit_ascii : (c : ℕ) → is_digit c ≡ true → is_ascii c ≡ true
digit_ascii c e = grind (arith, nat_tests)

name_byte_ascii : (c : ℕ) → is_name_byte c ≡ true → is_ascii c ≡ true
name_byte_ascii c e = grind (arith, nat_tests)

blank_ascii : (c : ℕ) → is_blank_of_text c ≡ true → is_ascii c ≡ true
blank_ascii c e = grind (arith, nat_tests)

-- a run of bytes that all pass a test which only ASCII passes
run_ascii : (p : ℕ → Bool) → ((c : ℕ) → p c ≡ true → is_ascii c ≡ true) → (xs : List ℕ) → are_ascii (take (length (take_while p xs)) xs) ≡ true
run_ascii p small [] = refl
run_ascii p small (x ∷ xs) = by (run_ascii p small xs) (p x) refl
  where
    by : are_ascii (take (length (take_while p xs)) xs) ≡ true → (b : Bool) → p x ≡ b → are_ascii (take (length (take_while p (x ∷ xs))) (x ∷ xs)) ≡ true
    by rest true here =
        let is : take_while p (x ∷ xs) ≡ x ∷ take_while p xs = take_while-cons p x xs ∙ ap (λ b. cond b (x ∷ take_while p xs) []) here in
        rw is (and_from (is_ascii x) (are_ascii (take (length (take_while p xs)) xs)) (small x here) rest)
    by rest false here =
        let is : take_while p (x ∷ xs) ≡ [] = take_while-cons p x xs ∙ ap (λ b. cond b (x ∷ take_while p xs) []) here in
        rw is refl

-- The first byte of the token found is ASCII, and so are all others.
abbrev IsAsciiFound : ℕ → List ℕ → FoundToken → Type 0
IsAsciiFound c cs None = Unit {0}
IsAsciiFound c cs (Some f) = (is_ascii c ≡ true) × (are_ascii (take (f.1 - 1) cs) ≡ true)

word_ascii : (c : ℕ) (cs run : List ℕ) → is_ascii c ≡ true → are_ascii (take (length run - 1) cs) ≡ true → IsAsciiFound c cs (word run)
word_ascii c cs run first all = by (keyword_of run) refl (nat_le (length run) 32) refl
  where
    by : (o : Option Keyword) → keyword_of run ≡ o → (b : Bool) → nat_le (length run) 32 ≡ b → IsAsciiFound c cs (word run)
    by (Some k) is b fits = rw is (first, all)
    by None is false fits = rw is (rw fits tt)
    by None is true fits = rw is (rw fits (first, all))

number_ascii : (c : ℕ) (cs run : List ℕ) → is_ascii c ≡ true → are_ascii (take (length run - 1) cs) ≡ true → IsAsciiFound c cs (number run)
number_ascii c cs run first all = by (nat_le (length run) 19 && nat_le (digits_value 10 run) (2 ^ 63)) refl
  where
    by : (b : Bool) → (nat_le (length run) 19 && nat_le (digits_value 10 run) (2 ^ 63)) ≡ b → IsAsciiFound c cs (number run)
    by false fits = rw fits tt
    by true fits = rw fits (first, all)

symbol_ascii : (s : Symbol) → are_ascii (text_of_symbol s) ≡ true
symbol_ascii Becomes = refl
symbol_ascii _ = refl

some_symbol : (s : Symbol) → 0 < length (text_of_symbol s)
some_symbol Becomes = lit< tt
some_symbol _ = lit< tt

found_passes : {X : Type 0} (p : X → Bool) (xs : List X) (x : X) → find p xs ≡ Some x → p x ≡ true
found_passes p [] x e = absurd (cc)
found_passes p (y ∷ ys) x e = by (found_passes p ys x) (p y) refl
  where
    by : (find p ys ≡ Some x → p x ≡ true) → (b : Bool) → p y ≡ b → p x ≡ true
    by rest true here = let same : Some y ≡ Some x = rw here at e in let is : y ≡ x = cc in subst (λ z. p z ≡ true) is here
    by rest false here = rest (rw here at e)

-- a text that begins with an ASCII text
begun_ascii : (p text : List ℕ) → starts_with nat_eq text p ≡ true → are_ascii p ≡ true → are_ascii (take (length p) text) ≡ true
begun_ascii [] text e all = refl
begun_ascii (x ∷ xs) [] e all = absurd (cc)
begun_ascii (x ∷ xs) (y ∷ ys) e all =
    let each = and_parts (nat_eq x y) (starts_with nat_eq ys xs) e in
    let ascii = and_parts (is_ascii x) (are_ascii xs) all in
    let same : x ≡ y = nat_same x y each.0 in
    and_from (is_ascii y) (are_ascii (take (length xs) ys)) (subst (λ z. is_ascii z ≡ true) same ascii.0) (begun_ascii xs ys each.1 ascii.1)
  where
    nat_same : (m n : ℕ) → nat_eq m n ≡ true → m ≡ n
    nat_same m n h = grind (arith, nat_tests)

mark_ascii : (c : ℕ) (cs : List ℕ) → IsAsciiFound c cs (mark (c ∷ cs))
mark_ascii c cs = by (symbol_at (c ∷ cs)) refl
  where
    parts : (p : List ℕ) → 0 < length p → are_ascii (take (length p) (c ∷ cs)) ≡ true → (is_ascii c ≡ true) × (are_ascii (take (length p - 1) cs) ≡ true)
    parts [] some all = absurd (omega arith)
    parts (x ∷ xs) some all = let len : suc (length xs) - 1 ≡ length xs = omega arith in rw len (and_parts (is_ascii c) (are_ascii (take (length xs) cs)) all)

    by : (o : Option Symbol) → symbol_at (c ∷ cs) ≡ o → IsAsciiFound c cs (mark (c ∷ cs))
    by None is = rw is tt
    by (Some s) is =
        let begins = found_passes (λ t. starts_with nat_eq (c ∷ cs) (text_of_symbol t)) all_symbols s is in
        rw is (parts (text_of_symbol s) (some_symbol s) (begun_ascii (text_of_symbol s) (c ∷ cs) begins (symbol_ascii s)))

-- a run, without its first byte
run_tail_ascii : (p : ℕ → Bool) → ((c : ℕ) → p c ≡ true → is_ascii c ≡ true) → (c : ℕ) (cs : List ℕ) → p c ≡ true
    → are_ascii (take (length (take_while p (c ∷ cs)) - 1) cs) ≡ true
run_tail_ascii p small c cs here =
    let is : take_while p (c ∷ cs) ≡ c ∷ take_while p cs = take_while-cons p c cs ∙ ap (λ b. cond b (c ∷ take_while p cs) []) here in
    let len : suc (length (take_while p cs)) - 1 ≡ length (take_while p cs) = omega arith in
    rw is (rw len (run_ascii p small cs))

letter_in_name : (c : ℕ) → is_letter c ≡ true → is_name_byte c ≡ true
letter_in_name c e = grind (arith, nat_tests)

word_begins : (c : ℕ) (cs : List ℕ) → is_letter c ≡ true → first_token (c ∷ cs) ≡ word (take_while is_name_byte (c ∷ cs))
word_begins c cs letter = rw letter refl

number_begins : (c : ℕ) (cs : List ℕ) → is_letter c ≡ false → is_digit c ≡ true → first_token (c ∷ cs) ≡ number (take_while is_digit (c ∷ cs))
number_begins c cs letter digit = rw (letter, digit) refl

mark_begins : (c : ℕ) (cs : List ℕ) → is_letter c ≡ false → is_digit c ≡ false → first_token (c ∷ cs) ≡ mark (c ∷ cs)
mark_begins c cs letter digit = rw (letter, digit) refl

first_ascii : (c : ℕ) (cs : List ℕ) → IsAsciiFound c cs (first_token (c ∷ cs))
first_ascii c cs = by (is_letter c) refl (is_digit c) refl
  where
    by : (l : Bool) → is_letter c ≡ l → (d : Bool) → is_digit c ≡ d → IsAsciiFound c cs (first_token (c ∷ cs))
    by true letter d digit = subst (IsAsciiFound c cs) (sym (word_begins c cs letter))
        (word_ascii c cs (take_while is_name_byte (c ∷ cs)) (letter_ascii c letter) (run_tail_ascii is_name_byte name_byte_ascii c cs (letter_in_name c letter)))
    by false letter true digit = subst (IsAsciiFound c cs) (sym (number_begins c cs letter digit))
        (number_ascii c cs (take_while is_digit (c ∷ cs)) (digit_ascii c digit) (run_tail_ascii is_digit digit_ascii c cs digit))
    by false letter false digit = subst (IsAsciiFound c cs) (sym (mark_begins c cs letter digit)) (mark_ascii c cs)

-- the bytes between this offset and a place are ASCII, if this text begins at the offset
abbrev pub AsciiUpTo : ℕ → List ℕ → ℕ → Type 0
AsciiUpTo offset text place = are_ascii (take (place - offset) text) ≡ true

abbrev pub AsciiUpToEach : ℕ → List ℕ → List PlacedToken → Type 0
AsciiUpToEach offset text [] = Unit {0}
AsciiUpToEach offset text (t ∷ ts) = AsciiUpTo offset text t.offset × AsciiUpToEach offset text ts

abbrev pub AsciiFronts : ℕ → List ℕ → Tokens → Type 0
AsciiFronts offset text (Ok ts) = AsciiUpToEach offset text ts
AsciiFronts offset text (Err fault) = AsciiUpTo offset text fault

-- the same with one more ASCII byte before
one_earlier : (offset : ℕ) (c : ℕ) (cs : List ℕ) (place : ℕ) → is_ascii c ≡ true → AsciiUpTo (offset + 1) cs place → AsciiUpTo offset (c ∷ cs) place
one_earlier offset c cs place here rest = by (place - offset) refl
  where
    by : (n : ℕ) → place - offset ≡ n → are_ascii (take (place - offset) (c ∷ cs)) ≡ true
    by zero is = rw is refl
    by (suc n) is =
        let less : place - (offset + 1) ≡ n = omega (arith, is) in
        rw is (and_from (is_ascii c) (are_ascii (take n cs)) here (rw less at rest))

each_earlier : (offset : ℕ) (c : ℕ) (cs : List ℕ) (ts : List PlacedToken) → is_ascii c ≡ true → AsciiUpToEach (offset + 1) cs ts → AsciiUpToEach offset (c ∷ cs) ts
each_earlier offset c cs [] here rest = tt
each_earlier offset c cs (t ∷ ts) here rest = (one_earlier offset c cs t.offset here rest.0, each_earlier offset c cs ts here rest.1)

all_earlier : (offset : ℕ) (c : ℕ) (cs : List ℕ) (r : Tokens) → is_ascii c ≡ true → AsciiFronts (offset + 1) cs r → AsciiFronts offset (c ∷ cs) r
all_earlier offset c cs (Ok ts) here rest = each_earlier offset c cs ts here rest
all_earlier offset c cs (Err fault) here rest = one_earlier offset c cs fault here rest

none_between : (offset : ℕ) (text : List ℕ) → AsciiUpTo offset text offset
none_between offset text = let none : offset - offset ≡ 0 = omega arith in rw none refl

one_more : (offset : ℕ) (text : List ℕ) (t : Token) (r : Tokens) → AsciiFronts offset text r → AsciiFronts offset text (after_token t offset r)
one_more offset text t (Ok ts) rest = (none_between offset text, rest)
one_more offset text t (Err fault) rest = rest

fronts_from : (within offset : ℕ) (text : List ℕ) → are_ascii (take within text) ≡ true → AsciiFronts offset text (tokens_from within offset text)
fronts_from within offset [] inside = tt
fronts_from (suc within) offset (c ∷ cs) inside =
    let each = and_parts (is_ascii c) (are_ascii (take within cs)) inside in
    all_earlier offset c cs (tokens_from within (offset + 1) cs) each.0 (fronts_from within (offset + 1) cs each.1)
fronts_from zero offset (c ∷ cs) inside = by (λ k. fronts_from k (offset + 1) cs) (is_blank_of_text c) refl (first_token (c ∷ cs)) refl (first_ascii c cs)
  where
    by : ((k : ℕ) → are_ascii (take k cs) ≡ true → AsciiFronts (offset + 1) cs (tokens_from k (offset + 1) cs))
        → (b : Bool) → is_blank_of_text c ≡ b → (f : FoundToken) → first_token (c ∷ cs) ≡ f → IsAsciiFound c cs (first_token (c ∷ cs)) → AsciiFronts offset (c ∷ cs) (tokens_from 0 offset (c ∷ cs))
    by rest true blank f at found = rw blank (all_earlier offset c cs (tokens_from 0 (offset + 1) cs) (blank_ascii c blank) (rest 0 refl))
    by rest false blank None at found = rw (blank, at) (none_between offset (c ∷ cs))
    by rest false blank (Some f) at found =
        let ascii : IsAsciiFound c cs (Some f) = subst (IsAsciiFound c cs) at found in
        rw (blank, at) (one_more offset (c ∷ cs) f.0 (tokens_from (f.1 - 1) (offset + 1) cs)
        (all_earlier offset c cs (tokens_from (f.1 - 1) (offset + 1) cs) ascii.0 (rest (f.1 - 1) ascii.1)))

pub fronts : (text : List ℕ) → AsciiFronts 0 text (tokens_of text)
fronts text = fronts_from 0 0 text refl

pub one_front : (text : List ℕ) (before after : List PlacedToken) (t : PlacedToken) → AsciiUpToEach 0 text (before ++ t ∷ after) → AsciiUpTo 0 text t.offset
one_front text [] after t all = all.0
one_front text (u ∷ us) after t all = one_front text us after t all.1
