-- The canonical text of a program reads as the program.
use Rattle.std.specs.Prelude.{nat_le, Option, is_none}
use Rattle.std.proofs.Common.{◌≡◌, ℕ, suc, ◌+◌, ◌-◌, ◌^◌, ◌<◌, ◌≤◌, Bool, true, false, ◌&&◌, ◌⊎◌, inl, inr, List, [], ◌∷◌, ◌++◌, map, length, get_or, take, Some, None, Ok, refl, ap, sym, ◌∙◌, subst, arith, length-append, lit<}
use Rattle.std.proofs.lemmas.Bool.{and_parts, and_from, or_left, le-leb}
use Rattle.std.proofs.lemmas.Bool.Decides.{nat_tests}
use Rattle.std.proofs.lemmas.Fmt.{digits_decimal, digits_value-decimal, decimal_nonempty, length-decimal-le}
use Rattle.std.proofs.lemmas.List.{append-nil, get_or_default}
use Rattle.std.proofs.lemmas.List.Sums.{list_all-from_AllPass}
use Rattle.std.proofs.Math.Seq.{take-append_seam, drop-append_seam}
use Rattle.std.specs.Fmt.{decimal}
use Rattle.std.specs.List.{list_all, prefix_len, join_with_byte}
use Rattle.std.specs.Str.Parse.{digits_value}
use Rattle.giotto_tasks.specs.declared.names.Name.{Name}
use Rattle.giotto_text.specs.declared.tokens.Keyword.{Keyword}
use Rattle.giotto_text.specs.declared.tokens.Keyword.TheVariants.{Sensor}
use Rattle.giotto_text.specs.declared.tokens.Symbol.{Symbol}
use Rattle.giotto_text.specs.declared.tokens.Symbol.TheVariants.{Becomes}
use Rattle.giotto_text.specs.declared.tokens.Token.{Token}
use Rattle.giotto_text.specs.declared.tokens.Token.TheVariants as tokens
use Rattle.giotto_text.specs.declared.tokens.PlacedToken.{PlacedToken}
use Rattle.giotto_text.specs.Bytes.{is_digit, is_letter, is_name, is_name_byte, is_blank_of_text}
use Rattle.giotto_text.specs.Tokens.{first_token, word, number, after_token, tokens_from, bare, text_of_keyword, text_of_symbol, keyword_of}
use Rattle.giotto_text.specs.Canonical.{text_of, canonical_tokens, canonical_of}
use Rattle.giotto_text.specs.Nesting.{nests_too_deep}
use Rattle.giotto_text.specs.Program.{GiottoProgram}
use Rattle.giotto_text.specs.Reading.{has_small_tasks, Reads, a_program}
use Rattle.giotto_text.specs.Spelling.{Spells}
use Rattle.giotto_text.specs.Sound.{can_be_printed, is_sound_name, is_sound_token, IsPrintable}
use Rattle.giotto_text.proofs.CanonicalSound.{canonical_sound, canonical_shallow}
use Rattle.giotto_text.proofs.SoundTokens.{word_begins, number_begins}
use Rattle.giotto_text.proofs.Lexing.{digits_read, tokens_from-within, token_first}

-- what follows a token in a canonical text: nothing, or a space
data Tail : List ℕ → Type 0 where
  nothing : Tail []
  space : {rest : List ℕ} → Tail (32 ∷ rest)

run_ends : (p : ℕ → Bool) (cs : List ℕ) {tail : List ℕ} → p 32 ≡ false → list_all p cs ≡ true → Tail tail → prefix_len p (cs ++ tail) ≡ length cs
run_ends p [] stops all nothing = refl
run_ends p [] stops all space = rw stops refl
run_ends p (c ∷ cs) {tail = tail} stops all t =
    let parts = and_parts (p c) (list_all p cs) all in
    let here : p c ≡ true = parts.0 in
    let rest : prefix_len p (cs ++ tail) ≡ length cs = run_ends p cs stops parts.1 t in
    rw (here, rest) (omega arith)

run_taken : (p : ℕ → Bool) (cs : List ℕ) {tail : List ℕ} → p 32 ≡ false → list_all p cs ≡ true → Tail tail → take (prefix_len p (cs ++ tail)) (cs ++ tail) ≡ cs
run_taken p cs {tail = tail} stops all t = let len = run_ends p cs stops all t in rw len (take-append_seam cs tail)

word-name : (run : List ℕ) → keyword_of run ≡ None → length run ≤ 32 → word run ≡ Some (tokens.Name run, length run)
word-name run other short = let fits : nat_le (length run) 32 ≡ true = le-leb (length run) 32 short in rw other (rw fits refl)

number-value : (run : List ℕ) → length run ≤ 19 → digits_value 10 run ≤ 2 ^ 63 → number run ≡ Some (tokens.Number (digits_value 10 run), length run)
number-value run short small =
    let fits : nat_le (length run) 19 ≡ true = le-leb (length run) 19 short in
    let least : nat_le (digits_value 10 run) (2 ^ 63) ≡ true = le-leb (digits_value 10 run) (2 ^ 63) small in
    rw (fits, least) refl

no_keyword : (o : Option Keyword) → is_none o ≡ true → o ≡ None
no_keyword None e = refl
no_keyword (Some k) e = absurd (cc)

at_most : (m n : ℕ) → nat_le m n ≡ true → m ≤ n
at_most m n e = grind (arith, nat_tests)

name_first : (x : Name) {tail : List ℕ} → is_sound_name x ≡ true → Tail tail → first_token (x ++ tail) ≡ Some (tokens.Name x, length x)
name_first [] sound t = absurd (cc)
name_first (c ∷ cs) {tail = tail} sound t =
    let parts = and_parts (is_name (c ∷ cs)) (is_none (keyword_of (c ∷ cs))) sound in
    let short = and_parts (is_letter c && list_all is_name_byte cs) (nat_le (length (c ∷ cs)) 32) parts.0 in
    let shape = and_parts (is_letter c) (list_all is_name_byte cs) short.0 in
    let bytes : list_all is_name_byte (c ∷ cs) ≡ true = and_from (is_name_byte c) (list_all is_name_byte cs) (or_left (is_letter c) (is_digit c) shape.0) shape.1 in
    let other = no_keyword (keyword_of (c ∷ cs)) parts.1 in
    word_begins c (cs ++ tail) shape.0
    ∙ ap word (run_taken is_name_byte (c ∷ cs) {tail = tail} refl bytes t)
    ∙ word-name (c ∷ cs) other (at_most (length (c ∷ cs)) 32 short.1)

keyword_first : (k : Keyword) {tail : List ℕ} → Tail tail → first_token (text_of_keyword k ++ tail) ≡ Some (tokens.Keyword k, length (text_of_keyword k))
keyword_first Sensor nothing = refl
keyword_first _ nothing = refl
keyword_first Sensor space = refl
keyword_first _ space = refl

symbol_first : (s : Symbol) {tail : List ℕ} → Tail tail → first_token (text_of_symbol s ++ tail) ≡ Some (tokens.Symbol s, length (text_of_symbol s))
symbol_first Becomes nothing = refl
symbol_first _ nothing = refl
symbol_first Becomes space = refl
symbol_first _ space = refl

digit_no_letter : (c : ℕ) → is_digit c ≡ true → is_letter c ≡ false
digit_no_letter c e = grind (arith, nat_tests)

in_range_digit : (c : ℕ) → 48 ≤ c → c ≤ 57 → is_digit c ≡ true
in_range_digit c low high = grind (arith, nat_tests)

digits_first : (ds : List ℕ) {tail : List ℕ} → 0 < length ds → list_all is_digit ds ≡ true → length ds ≤ 19 → digits_value 10 ds ≤ 2 ^ 63 → Tail tail
    → first_token (ds ++ tail) ≡ Some (tokens.Number (digits_value 10 ds), length ds)
digits_first [] some digits short small t = absurd (omega arith)
digits_first (c ∷ cs) {tail = tail} some digits short small t =
    let digit = (and_parts (is_digit c) (list_all is_digit cs) digits).0 in
    let no_letter = digit_no_letter c digit in
    number_begins c (cs ++ tail) no_letter digit ∙ ap number (run_taken is_digit (c ∷ cs) {tail = tail} refl digits t) ∙ number-value (c ∷ cs) short small

number_first : (n : ℕ) {tail : List ℕ} → n ≤ 2 ^ 63 → Tail tail → first_token (decimal n ++ tail) ≡ Some (tokens.Number n, length (decimal n))
number_first n {tail = tail} small t =
    let wide : n < 2 ^ 64 = omega arith in
    let value : digits_value 10 (decimal n) ≡ n = digits_value-decimal digits_read n wide in
    let in_range = digits_decimal digits_read n wide in
    let digits : list_all is_digit (decimal n) ≡ true =
    list_all-from_AllPass is_digit (decimal n)
    (λ k d lt. let r = in_range k lt in rw (get_or_default (decimal n) k d 0 lt) (in_range_digit (get_or (decimal n) k 0) r.0 r.1)) in
    let short : length (decimal n) ≤ 19 = length-decimal-le 19 n (omega arith) (omega arith) wide in
    let found = digits_first (decimal n) {tail = tail} (decimal_nonempty n wide) digits short (omega (arith, value, small)) t in
    rw value at found

-- no token begins with a blank
no_blank_first : (c : ℕ) (cs : List ℕ) (t : Token) (n : ℕ) → first_token (c ∷ cs) ≡ Some (t, n) → is_blank_of_text c ≡ false
no_blank_first c cs t n e = by (is_blank_of_text c) refl
  where
    at : (b : ℕ) → first_token (b ∷ cs) ≡ None → c ≡ b → ⊥
    at b none same = let first : first_token (b ∷ cs) ≡ Some (t, n) = rw same at e in cc (sym none ∙ first)

    by : (b : Bool) → is_blank_of_text c ≡ b → b ≡ false
    by false is = refl
    by true is = absurd (four (grind (arith, nat_tests)))
      where
        four : ((c ≡ 32) ⊎ ((c ≡ 9) ⊎ ((c ≡ 13) ⊎ (c ≡ 10)))) → ⊥
        four (inl h) = at 32 refl h
        four (inr (inl h)) = at 9 refl h
        four (inr (inr (inl h))) = at 13 refl h
        four (inr (inr (inr h))) = at 10 refl h

sound_first : (k : Token) {tail : List ℕ} → is_sound_token k ≡ true → Tail tail → first_token (text_of k ++ tail) ≡ Some (k, length (text_of k))
sound_first (tokens.Name x) sound t = name_first x sound t
sound_first (tokens.Keyword k) sound t = keyword_first k t
sound_first (tokens.Number n) sound t = number_first n (at_most n (2 ^ 63) sound) t
sound_first (tokens.Symbol s) sound t = symbol_first s t

-- the tokens of a text after its first token
text_passed : (k : Token) (text tail : List ℕ) (i : ℕ) → first_token (text ++ tail) ≡ Some (k, length text) → 0 < length text
    → tokens_from 0 i (text ++ tail) ≡ after_token k i (tokens_from 0 (i + length text) tail)
text_passed k [] tail i e some = absurd (omega arith)
text_passed k (c ∷ cs) tail i e some =
    let inside : length cs ≤ length (cs ++ tail) = omega (arith, length-append cs tail) in
    let end : (i + 1) + length cs ≡ i + suc (length cs) = omega arith in
    let past : tokens_from (length cs) (i + 1) (cs ++ tail) ≡ tokens_from 0 (i + suc (length cs)) tail =
    tokens_from-within (length cs) (i + 1) (cs ++ tail) inside ∙ rw (drop-append_seam, end) refl in
    let count : suc (length cs) - 1 ≡ length cs = omega arith in
    token_first c (cs ++ tail) i (suc (length cs)) k (no_blank_first c (cs ++ tail) k (suc (length cs)) e) e ∙ ap (after_token k i) (rw count past)

some_keyword : (k : Keyword) → 0 < length (text_of_keyword k)
some_keyword Sensor = lit< tt
some_keyword _ = lit< tt

some_symbol : (s : Symbol) → 0 < length (text_of_symbol s)
some_symbol Becomes = lit< tt
some_symbol _ = lit< tt

some_text : (k : Token) → is_sound_token k ≡ true → 0 < length (text_of k)
some_text (tokens.Name []) sound = absurd (cc)
some_text (tokens.Name (c ∷ cs)) sound = omega arith
some_text (tokens.Keyword k) sound = some_keyword k
some_text (tokens.Number n) sound = let small = at_most n (2 ^ 63) sound in decimal_nonempty n (omega arith)
some_text (tokens.Symbol s) sound = some_symbol s

-- the tokens of a joined text, with their offsets
record TokensFound (i : ℕ) (ks : List Token) : Type 0 where
  placed : List PlacedToken
  are : tokens_from 0 i (join_with_byte 32 (map text_of ks)) ≡ Ok placed
  same : bare placed ≡ ks

joined_found : (i : ℕ) (ks : List Token) → list_all is_sound_token ks ≡ true → TokensFound i ks
joined_found i [] sound = record { placed = []; are = refl; same = refl }
joined_found i (k ∷ []) sound =
    let text = text_of k in
    let here = (and_parts (is_sound_token k) true sound).0 in
    let passed = text_passed k text [] i (sound_first k here nothing) (some_text k here) in
    record { placed = record { token = k; offset = i } ∷ []; are = rw append-nil at passed; same = refl }
joined_found i (k ∷ l ∷ ks) sound =
    let text = text_of k in
    let each = and_parts (is_sound_token k) (list_all is_sound_token (l ∷ ks)) sound in
    let here = each.0 in
    let h = joined_found ((i + length text) + 1) (l ∷ ks) each.1 in
    let passed = text_passed k text (32 ∷ join_with_byte 32 (map text_of (l ∷ ks))) i (sound_first k here space) (some_text k here) in
    record { placed = record { token = k; offset = i } ∷ h.placed; are = passed ∙ ap (after_token k i) h.are; same = ap (λ ts. k ∷ ts) h.same }

pub reads_back : (p : GiottoProgram) → IsPrintable p → Reads (canonical_of p) (Ok p)
reads_back p (can_be_printed sound spelled shallow small) =
    let found = joined_found 0 (canonical_tokens p) sound in
    a_program found.placed found.are (ap nests_too_deep found.same ∙ shallow) (subst (λ ts. Spells ts p) (sym found.same) spelled) small

-- a program can be printed if sound tokens that don't nest too deep spell it, and its canonical tokens do too
pub printable : (ts : List Token) (p : GiottoProgram) → list_all is_sound_token ts ≡ true → nests_too_deep ts ≡ false → Spells ts p
    → Spells (canonical_tokens p) p → has_small_tasks p ≡ true → IsPrintable p
printable ts p sound shallow s spelled small =
    can_be_printed (canonical_sound ts p sound s) spelled (canonical_shallow ts p shallow s) small
