-- Runs of bytes, and adding a token.
use Rattle.std.proofs.Common.{◌≡◌, ◌≢◌, ℕ, zero, suc, ◌+◌, ◌-◌, ◌<◌, ◌≤◌, Bool, true, false, List, [], ◌∷◌, ◌++◌, length, get_or, take, drop, ◌^◌, Some, None, Result, Ok, Err, refl, sym, ap, ◌∙◌, arith, add-one}
use Rattle.std.proofs.Common.{drop-cons, length-drop}
use Rattle.std.proofs.lemmas.Bool.Decides.{nat_tests}
use Rattle.std.proofs.lemmas.List.{get_or-take, drop-drop, take_all}
use Rattle.std.proofs.lemmas.List.Folds.{length-prefix_len}
use Rattle.std.proofs.lemmas.List.Sums.{prefix_len_passes}
use Rattle.std.proofs.lemmas.Str.Parse.{IsNumeralModel, numerals_by_value, tells_by_index, digits_value_short, parse_gives}
use Rattle.std.proofs.Math.ListN.{drop_of_length-le}
use Rattle.std.specs.Int.{IsInRange}
use Rattle.std.specs.List.{prefix_len, AllPass}
use Rattle.std.specs.Str.Parse.{digits_value, ParsesUnsigned}
use Rattle.giotto_text.specs.declared.tokens.Token.{Token}
use Rattle.giotto_text.specs.declared.tokens.PlacedToken.{PlacedToken}
use Rattle.giotto_text.specs.Bytes.{is_name_byte, is_digit, is_blank_of_text}
use Rattle.giotto_text.specs.declared.faults.ReadFault.{ReadFault}
use Rattle.giotto_text.specs.declared.faults.ReadFault.TheVariants.{Syntax, TooDeep, TooMany, Memory}
use Rattle.giotto_text.specs.cited.Reading.{IsLexicalFault}
use Rattle.giotto_text.specs.inner.Adding.{placed, with_found}
use Rattle.giotto_text.specs.Tokens.{FoundToken, Tokens, first_token, after_token, tokens_from, tokens_of}

-- each byte of a run passes the test
pub run_passes : (p : ℕ → Bool) (xs : List ℕ) → AllPass p (take (prefix_len p xs) xs)
run_passes p xs = λ k d lt.
    let within : k < prefix_len p xs = omega (arith, length-prefix_len p xs) in
    rw (get_or-take (prefix_len p xs) xs k d within) (prefix_len_passes p xs k d within)

pub name_byte_is_ascii : (c : ℕ) → is_name_byte c ≡ true → c < 128
name_byte_is_ascii c e = grind (arith, nat_tests)

pub digit_in_range : (c : ℕ) → is_digit c ≡ true → (48 ≤ c) × (c ≤ 57)
digit_in_range c e = (grind (arith, nat_tests), grind (arith, nat_tests))

-- these tokens, followed by what comes next
abbrev pub behind : List PlacedToken → Tokens → Tokens
behind [] r = r
behind (p ∷ ps) r = after_token p.token p.offset (behind ps r)

pub behind-append : (ps : List PlacedToken) (p : PlacedToken) (r : Tokens) → behind (ps ++ p ∷ []) r ≡ behind ps (after_token p.token p.offset r)
behind-append [] p r = refl
behind-append (q ∷ ps) p r = ap (after_token q.token q.offset) (behind-append ps p r)

pub behind-Ok : (ps : List PlacedToken) → behind ps (Ok []) ≡ Ok ps
behind-Ok [] = refl
behind-Ok (p ∷ ps) = ap (after_token p.token p.offset) (behind-Ok ps)

pub behind-Err : (ps : List PlacedToken) (n : ℕ) → behind ps (Err n) ≡ Err n
behind-Err [] n = refl
behind-Err (p ∷ ps) n = ap (after_token p.token p.offset) (behind-Err ps n)

-- the tokens after the remaining bytes of a token
pub tokens_from-within : (k offset : ℕ) (cs : List ℕ) → k ≤ length cs → tokens_from k offset cs ≡ tokens_from 0 (offset + k) (drop k cs)
tokens_from-within zero offset cs le = ap (λ n. tokens_from 0 n cs) (omega arith)
tokens_from-within (suc k) offset [] le = absurd (omega arith)
tokens_from-within (suc k) offset (c ∷ cs) le = tokens_from-within k (offset + 1) cs (omega arith) ∙ ap (λ n. tokens_from 0 n (drop k cs)) (omega arith)

-- the first byte from i on, and the rest
at_byte : (text : List ℕ) (i : ℕ) → i < length text → drop i text ≡ get_or text i 0 ∷ drop (i + 1) text
at_byte text i lt = rw add-one (drop-cons text i 0 lt)

blank_first : (c : ℕ) (cs : List ℕ) (i : ℕ) → is_blank_of_text c ≡ true → tokens_from 0 i (c ∷ cs) ≡ tokens_from 0 (i + 1) cs
blank_first c cs i e = rw e refl

pub token_first : (c : ℕ) (cs : List ℕ) (i len : ℕ) (t : Token) → is_blank_of_text c ≡ false → first_token (c ∷ cs) ≡ Some (t, len)
    → tokens_from 0 i (c ∷ cs) ≡ after_token t i (tokens_from (len - 1) (i + 1) cs)
token_first c cs i len t e is = rw (e, is) refl

fault_first : (c : ℕ) (cs : List ℕ) (i : ℕ) → is_blank_of_text c ≡ false → first_token (c ∷ cs) ≡ None → tokens_from 0 i (c ∷ cs) ≡ Err i
fault_first c cs i e is = rw (e, is) refl

pub tokens_from-fault : (text : List ℕ) (i : ℕ) → i < length text → is_blank_of_text (get_or text i 0) ≡ false → first_token (drop i text) ≡ None
    → tokens_from 0 i (drop i text) ≡ Err i
tokens_from-fault text i lt e is = let whole = at_byte text i lt in rw whole (fault_first (get_or text i 0) (drop (i + 1) text) i e (rw whole at is))

pub tokens_from-token : (text : List ℕ) (i len : ℕ) (t : Token) → i < length text → is_blank_of_text (get_or text i 0) ≡ false
    → first_token (drop i text) ≡ Some (t, len) → 0 < len → len ≤ length (drop i text)
    → tokens_from 0 i (drop i text) ≡ after_token t i (tokens_from 0 (i + len) (drop (i + len) text))
tokens_from-token text i len t lt e is positive within =
    let whole = at_byte text i lt in
    let inside : len - 1 ≤ length (drop (i + 1) text) = omega (arith, length-drop (i + 1) text, length-drop i text) in
    let end : (i + 1) + (len - 1) ≡ i + len = omega arith in
    let past : tokens_from (len - 1) (i + 1) (drop (i + 1) text) ≡ tokens_from 0 (i + len) (drop (i + len) text) =
    tokens_from-within (len - 1) (i + 1) (drop (i + 1) text) inside ∙ rw (drop-drop, end) refl in
    rw whole (token_first (get_or text i 0) (drop (i + 1) text) i len t e (rw whole at is) ∙ ap (after_token t i) past)

-- at the end of the text there are no more tokens
pub tokens_from-end : (text : List ℕ) (i : ℕ) → length text ≤ i → tokens_from 0 i (drop i text) ≡ Ok []
tokens_from-end text i le = rw (drop_of_length-le text le) refl

-- the token that was found at an offset and added
pub found_there : (ts us : List PlacedToken) (offset len : ℕ) (f : FoundToken) → with_found ts offset f ≡ Ok (us, len)
    → (t : Token) × ((f ≡ Some (t, len)) × (us ≡ ts ++ placed t offset ∷ []))
found_there ts us offset len (Some f) e =
    let both : (ts ++ placed f.0 offset ∷ [], f.1) ≡ (us, len) = cc in
    (f.0, (ap (λ (p : List PlacedToken × ℕ). Some (f.0, p.1)) both, sym (ap (λ p. p.0) both)))
found_there ts us offset len None e = absurd (cc)

pub none_there : (ts : List PlacedToken) (offset n : ℕ) (f : FoundToken) → with_found ts offset f ≡ Err (Syntax n) → (f ≡ None) × (n ≡ offset)
none_there ts offset n (Some f) e = absurd (cc)
none_there ts offset n None e = (refl, cc)

-- it gives no other fault
not_found : (ts : List PlacedToken) (offset : ℕ) (f : FoundToken) (fault : ReadFault) → ((n : ℕ) → Syntax n ≢ fault) → with_found ts offset f ≢ Err fault
not_found ts offset (Some f) fault other e = absurd (cc)
not_found ts offset None fault other e = let same : Syntax offset ≡ fault = cc in other offset same

-- how a run of digits is parsed
pub digits_read : IsNumeralModel (λ ds. (i : ℕ) → i < length ds → IsInRange 48 57 (get_or ds i 0)) (digits_value 10)
digits_read = numerals_by_value _ tells_by_index

-- at most 19 digits are a number below 2 ^ 64
pub digits_parsed : {E : Type 0} (run : List ℕ) (r : Result ℕ E) → 0 < length run → AllPass is_digit run → length run ≤ 19 → ParsesUnsigned 64 10 run r
    → r ≡ Ok (digits_value 10 run)
digits_parsed run r begun digits short h =
    let in_range : (i : ℕ) → i < length run → IsInRange 48 57 (get_or run i 0) = λ i lt. digit_in_range (get_or run i 0) (digits i 0 lt) in
    let small : digits_value 10 run < 10 ^ 19 = digits_value_short digits_read run 19 in_range short in
    parse_gives digits_read 64 run r h in_range begun (omega arith)

-- the rest of a text, with its length
pub rest_whole : (text : List ℕ) (i : ℕ) → take (length text - i) (drop i text) ≡ drop i text
rest_whole text i = take_all (length text - i) (drop i text) (omega (arith, length-drop i text))

-- a fault at a place where no token is found is the fault of the text
pub lexical_fault : (text : List ℕ) (ts : List PlacedToken) (i : ℕ) (fault : ReadFault) → tokens_of text ≡ behind ts (tokens_from 0 i (drop i text)) → i < length text
    → is_blank_of_text (get_or text i 0) ≡ false → (fault ≢ Memory → with_found ts i (first_token (drop i text)) ≡ Err fault) → IsLexicalFault text fault
lexical_fault text ts i Memory so_far lt e h = tt
lexical_fault text ts i (Syntax n) so_far lt e h =
    let none = none_there ts i n (first_token (drop i text)) (h (λ x. absurd (cc))) in
    so_far ∙ ap (behind ts) (tokens_from-fault text i lt e none.0) ∙ behind-Err ts i ∙ ap Err (sym none.1)
lexical_fault text ts i TooDeep so_far lt e h = absurd (not_found ts i (first_token (drop i text)) TooDeep (λ n x. absurd (cc)) (h (λ x. absurd (cc))))
lexical_fault text ts i TooMany so_far lt e h = absurd (not_found ts i (first_token (drop i text)) TooMany (λ n x. absurd (cc)) (h (λ x. absurd (cc))))
