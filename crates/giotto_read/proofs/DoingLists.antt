-- The loops of the reader, compared with the repetitions of the parser.
use Rattle.std.proofs.Common.{◌≡◌, ℕ, zero, suc, ◌<◌, Bool, true, false, List, [], ◌∷◌, ◌++◌, length, Option, Some, None, refl, sym, ap, ◌∙◌, subst, arith}
use Rattle.std.proofs.lemmas.List.{append-nil, append_assoc}
use Rattle.giotto_read.specs.declared.reader.Reader.{Reader}
use Rattle.giotto_text.specs.declared.tokens.PlacedToken.{PlacedToken}
use Rattle.giotto_text.specs.declared.tokens.Symbol.TheVariants.{Comma, OpenParenthesis, CloseParenthesis, OpenBrace, CloseBrace}
use Rattle.giotto_text.specs.declared.tokens.Token.{Token}
use Rattle.giotto_text.specs.declared.tokens.Token.TheVariants as tokens
use Rattle.std.specs.Prelude.{Result, Err, if◌then◌else◌}
use Rattle.std.specs.Result.{IsErr, IsErrAnd}
use Rattle.std.proofs.lemmas.Result.{err_from_is_err_and}
use Rattle.giotto_read.specs.declared.reader.Stop.{Stop}
use Rattle.giotto_read.specs.declared.reader.Stop.TheVariants.{Unexpected, Memory}
use Rattle.giotto_read.specs.inner.Doing.{ComesNext, left, Does}
use Rattle.giotto_text.specs.Parsing.{end_mark, this, Outcome, got, stopped, Parser, done, behind, ◌>>=◌, ◌>>◌, next_of, taken, read_one, read_token, pick, if_next, up_to, many, same_token, read_list, read_parentheses}
use Rattle.giotto_read.proofs.DoingSteps.{comes_next}
use Rattle.giotto_read.proofs.NextToken.{next_token}
use Rattle.giotto_text.proofs.cited.SameToken.{same_token_self, is_this}
use Rattle.giotto_read.proofs.Shrinking.{Shrinks, Progresses, one_progresses, progresses_bind}

-- these values, followed by those of the outcome
abbrev pub prepend : {V : Type 0} → List V → Outcome (List V) → Outcome (List V)
prepend vs (got more rest) = got (vs ++ more) rest
prepend vs (stopped rest) = stopped rest

prepend_none : {V : Type 0} (o : Outcome (List V)) → prepend [] o ≡ o
prepend_none (got more rest) = refl
prepend_none (stopped rest) = refl

prepend_both : {V : Type 0} (vs : List V) (v : V) (o : Outcome (List V)) → prepend vs (prepend (v ∷ []) o) ≡ prepend (vs ++ v ∷ []) o
prepend_both vs v (got more rest) = ap (λ x. got x rest) (sym (append_assoc vs (v ∷ []) more))
prepend_both vs v (stopped rest) = refl

-- the bound doesn't matter, if it is large enough
same_up_to : {V : Type 0} (test : Token → Bool) (p : Parser V) → Progresses p → (m n : ℕ) (ts : List PlacedToken) → length ts < m → length ts < n → up_to m test p ts ≡ up_to n test p ts
same_up_to test p prog zero n ts lm ln = absurd (omega arith)
same_up_to test p prog (suc m) zero ts lm ln = absurd (omega arith)
same_up_to {V = V} test p prog (suc m) (suc n) ts lm ln = by (test (next_of ts)) (p ts) refl
    (λ v rest e. let less = prog.shorter ts v rest e in same_up_to test p prog m n rest (omega arith) (omega arith))
  where
    by : (b : Bool) (o : Outcome V) → p ts ≡ o → ((v : V) (rest : List PlacedToken) → p ts ≡ got v rest → up_to m test p rest ≡ up_to n test p rest)
        → pick b (p >>= λ v. up_to m test p >>= λ vs. done (v ∷ vs)) (done []) ts ≡ pick b (p >>= λ v. up_to n test p >>= λ vs. done (v ∷ vs)) (done []) ts
    by false o e same = refl
    by true (stopped rest) e same = ap (λ o. behind o (λ v. up_to m test p >>= λ vs. done (v ∷ vs))) e ∙ sym (ap (λ o. behind o (λ v. up_to n test p >>= λ vs. done (v ∷ vs))) e)
    by true (got v rest) e same =
        ap (λ o. behind o (λ v. up_to m test p >>= λ vs. done (v ∷ vs))) e
        ∙ ap (λ o. behind o (λ vs. done (v ∷ vs))) (same v rest e)
        ∙ sym (ap (λ o. behind o (λ v. up_to n test p >>= λ vs. done (v ∷ vs))) e)

one_first : {V : Type 0} (v : V) (o : Outcome (List V)) → behind o (λ vs. done (v ∷ vs)) ≡ prepend (v ∷ []) o
one_first v (got vs rest) = refl
one_first v (stopped rest) = refl

many_more : {V : Type 0} (test : Token → Bool) (p : Parser V) → Progresses p → (ts rest : List PlacedToken) (v : V) → test (next_of ts) ≡ true → p ts ≡ got v rest → many test p ts ≡ prepend (v ∷ []) (many test p rest)
many_more test p prog ts rest v fits e =
    let less = prog.shorter ts v rest e in
    ap (λ b. pick b (p >>= λ v. up_to (length ts) test p >>= λ vs. done (v ∷ vs)) (done []) ts) fits
    ∙ ap (λ o. behind o (λ v. up_to (length ts) test p >>= λ vs. done (v ∷ vs))) e
    ∙ ap (λ o. behind o (λ vs. done (v ∷ vs))) (same_up_to test p prog (length ts) (suc (length rest)) rest less (omega arith))
    ∙ one_first v (many test p rest)

many_stopped : {V : Type 0} (test : Token → Bool) (p : Parser V) (ts rest : List PlacedToken) → test (next_of ts) ≡ true → p ts ≡ stopped rest → many test p ts ≡ stopped rest
many_stopped test p ts rest fits e =
    ap (λ b. pick b (p >>= λ v. up_to (length ts) test p >>= λ vs. done (v ∷ vs)) (done []) ts) fits
    ∙ ap (λ o. behind o (λ v. up_to (length ts) test p >>= λ vs. done (v ∷ vs))) e

many_ended : {V : Type 0} (test : Token → Bool) (p : Parser V) (ts : List PlacedToken) → test (next_of ts) ≡ false → many test p ts ≡ got [] ts
many_ended test p ts other = ap (λ b. pick b (p >>= λ v. up_to (length ts) test p >>= λ vs. done (v ∷ vs)) (done []) ts) other

-- the state of a loop that has read some values
pub record HasRead {V : Type 0} (test : Token → Bool) (p : Parser V) (old : Reader) (vs : List V) (new : Reader) : Type 0 where
  pub is : many test p (left old) ≡ prepend vs (many test p (left new))

pub none_yet : {V : Type 0} (test : Token → Bool) (p : Parser V) (r : Reader) → HasRead test p r [] r
none_yet test p r = record { is = sym (prepend_none (many test p (left r))) }

pub one_more : {V : Type 0} {test : Token → Bool} {p : Parser V} {r s : Reader} (u : Reader) {vs : List V} {v : V} → Progresses p → HasRead test p r vs s → test (next_of (left s)) ≡ true → p (left s) ≡ got v (left u) → HasRead test p r (vs ++ v ∷ []) u
one_more {test = test} {p = p} {s = s} u {vs = vs} {v = v} prog h fits e = record { is = h.is ∙ ap (prepend vs) (many_more test p prog (left s) (left u) v fits e) ∙ prepend_both vs v (many test p (left u)) }

pub some_stopped : {V : Type 0} {test : Token → Bool} {p : Parser V} {r s : Reader} (u : Reader) {vs : List V} → HasRead test p r vs s → test (next_of (left s)) ≡ true → p (left s) ≡ stopped (left u) → many test p (left r) ≡ stopped (left u)
some_stopped {test = test} {p = p} {s = s} u {vs = vs} h fits e = h.is ∙ ap (prepend vs) (many_stopped test p (left s) (left u) fits e)

pub all_read : {V : Type 0} {test : Token → Bool} {p : Parser V} {r s : Reader} {vs : List V} → HasRead test p r vs s → test (next_of (left s)) ≡ false → many test p (left r) ≡ got vs (left s)
all_read {test = test} {p = p} {s = s} {vs = vs} h other = h.is ∙ ap (prepend vs) (many_ended test p (left s) other) ∙ ap (λ x. got x (left s)) (append-nil vs)

-- what a `?` returns
pub failed_as : {T U V W : Type 0} (value_of : T → V) (f : U → W) (p : Parser V) (q : Parser W) (r s u : Reader) (e : Stop) (x : Result T Stop) → IsErr x × IsErrAnd x (λ y. y ≡ e)
    → (q (left s) ≡ stopped (left u) → p (left r) ≡ stopped (left u)) → Does f q s (Err e) u → Does value_of p r x u
failed_as value_of f p q r s u e x h k d = let o = err_from_is_err_and x h.1 in subst (λ y. Does value_of p r y u) (sym o.1) (by o.0 (subst (λ y. Does f q s (Err y) u) (sym o.2) d))
  where
    by : (y : Stop) → Does f q s (Err y) u → Does value_of p r (Err y) u
    by Unexpected d = k d
    by Memory d = tt

-- the tests of a loop

pub next_yes : (r : Reader) (t : Token) → ComesNext r t → same_token t (next_of (left r)) ≡ true
next_yes r t e = ap (same_token t) (comes_next r t e) ∙ same_token_self t

pub next_no : (r : Reader) (t : Token) → ¬ ComesNext r t → same_token t (next_of (left r)) ≡ false
next_no r t not = by (same_token t (next_of (left r))) refl
  where
    by : (b : Bool) → same_token t (next_of (left r)) ≡ b → same_token t (next_of (left r)) ≡ false
    by false e = e
    by true e = let next = next_token r in absurd (not (next.1 ∙ ap Some (sym (comes_next r next.0 next.1) ∙ is_this t (next_of (left r)) e)))

abbrev one_unit : Unit {0}
one_unit = tt

pub took_this : (ts rest : List PlacedToken) (t : Token) → read_token t ts ≡ got tt rest → same_token t (next_of ts) ≡ true
took_this [] rest t e = absurd (cc)
took_this (p ∷ ts) rest t e = by (same_token t p.token) e
  where
    by : (b : Bool) → taken (if b then Some one_unit else None) ts (p ∷ ts) ≡ got one_unit rest → b ≡ true
    by true e = refl
    by false e = absurd (cc)

pub took_other : (ts rest : List PlacedToken) (t : Token) → same_token t end_mark ≡ false → read_token t ts ≡ stopped rest → same_token t (next_of ts) ≡ false
took_other [] rest t end e = end
took_other (p ∷ ts) rest t end e = by (same_token t p.token) e
  where
    by : (b : Bool) → taken (if b then Some one_unit else None) ts (p ∷ ts) ≡ stopped rest → b ≡ false
    by true e = absurd (cc)
    by false e = refl

pub took_one : {V : Type 0} (f : Token → Option V) (ts rest : List PlacedToken) (v : V) → read_one f ts ≡ got v rest → f (next_of ts) ≡ Some v
took_one f [] rest v e = absurd (cc)
took_one {V = V} f (p ∷ ts) rest v e = by (f p.token) e
  where
    by : (o : Option V) → taken o ts (p ∷ ts) ≡ got v rest → o ≡ Some v
    by (Some w) e = let same : w ≡ v = cc in ap Some same
    by None e = absurd (cc)

pub took_none : {V : Type 0} (f : Token → Option V) (ts rest : List PlacedToken) → f end_mark ≡ None → read_one f ts ≡ stopped rest → f (next_of ts) ≡ None
took_none f [] rest end e = end
took_none {V = V} f (p ∷ ts) rest end e = by (f p.token) e
  where
    by : (o : Option V) → taken o ts (p ∷ ts) ≡ stopped rest → o ≡ None
    by (Some w) e = absurd (cc)
    by None e = refl

-- a list with commas, of at least one element, as far as it is read

abbrev pub comma : Token
comma = tokens.Symbol Comma

abbrev pub next_thing : {V : Type 0} → Parser V → Parser V
next_thing p = read_token comma >> p

pub record ListBegun {V : Type 0} (p : Parser V) (old : Reader) (vs : List V) (new : Reader) : Type 0 where
  pub is : read_list p (left old) ≡ prepend vs (many (same_token comma) (next_thing p) (left new))

pub list_begun : {V : Type 0} (p : Parser V) (r s : Reader) (v : V) → p (left r) ≡ got v (left s) → ListBegun p r (v ∷ []) s
list_begun p r s v e =
    record { is = ap (λ o. behind o (λ x. many (same_token comma) (next_thing p) >>= λ xs. done (x ∷ xs))) e ∙ one_first v (many (same_token comma) (next_thing p) (left s)) }

next_is_thing : {V : Type 0} (p : Parser V) (ts rest : List PlacedToken) → read_token comma ts ≡ got tt rest → next_thing p ts ≡ p rest
next_is_thing p ts rest e = ap (λ o. behind o (λ _. p)) e

pub list_more : {V : Type 0} (p : Parser V) (r s m u : Reader) {vs : List V} {v : V} → Progresses (next_thing p) → ListBegun p r vs s → read_token comma (left s) ≡ got tt (left m) → p (left m) ≡ got v (left u) → ListBegun p r (vs ++ v ∷ []) u
list_more p r s m u {vs = vs} {v = v} prog h next e =
    record {
      is = h.is ∙ ap (prepend vs) (many_more (same_token comma) (next_thing p) prog (left s) (left u) v (took_this (left s) (left m) comma next) (next_is_thing p (left s) (left m) next ∙ e))
          ∙ prepend_both vs v (many (same_token comma) (next_thing p) (left u));
    }

pub list_stopped : {V : Type 0} (p : Parser V) (r s m u : Reader) {vs : List V} → ListBegun p r vs s → read_token comma (left s) ≡ got tt (left m) → p (left m) ≡ stopped (left u) → read_list p (left r) ≡ stopped (left u)
list_stopped p r s m u {vs = vs} h next e =
    h.is ∙ ap (prepend vs) (many_stopped (same_token comma) (next_thing p) (left s) (left u) (took_this (left s) (left m) comma next) (next_is_thing p (left s) (left m) next ∙ e))

pub list_read : {V : Type 0} (p : Parser V) (r s : Reader) {vs : List V} → ListBegun p r vs s → read_token comma (left s) ≡ stopped (left s) → read_list p (left r) ≡ got vs (left s)
list_read p r s {vs = vs} h other =
    h.is ∙ ap (prepend vs) (many_ended (same_token comma) (next_thing p) (left s) (took_other (left s) (left s) comma refl other)) ∙ ap (λ x. got x (left s)) (append-nil vs)

pub list_stopped_first : {V : Type 0} (p : Parser V) (r u : Reader) → p (left r) ≡ stopped (left u) → read_list p (left r) ≡ stopped (left u)
list_stopped_first p r u e = ap (λ o. behind o (λ x. many (same_token comma) (next_thing p) >>= λ xs. done (x ∷ xs))) e

pub thing_progresses : {V : Type 0} {p : Parser V} → Shrinks p → Progresses (next_thing p)
thing_progresses h = progresses_bind _ (one_progresses (this comma)) (λ _. h)

-- "(" that isn't followed by ")"

abbrev open_token : Token
open_token = tokens.Symbol OpenParenthesis

abbrev close_token : Token
close_token = tokens.Symbol CloseParenthesis

pub parentheses_stopped : {V : Type 0} (p : Parser V) (r s u : Reader) → read_token open_token (left r) ≡ got tt (left s) → read_token close_token (left s) ≡ stopped (left s) → read_list p (left s) ≡ stopped (left u) → read_parentheses p (left r) ≡ stopped (left u)
parentheses_stopped p r s u opened other e = let test = took_other (left s) (left s) close_token refl other in rw (opened, test, e) refl

pub parentheses_unclosed : {V : Type 0} (p : Parser V) (r s m u : Reader) (vs : List V) → read_token open_token (left r) ≡ got tt (left s) → read_token close_token (left s) ≡ stopped (left s) → read_list p (left s) ≡ got vs (left m)
    → read_token close_token (left m) ≡ stopped (left u) → read_parentheses p (left r) ≡ stopped (left u)
parentheses_unclosed p r s m u vs opened other e unclosed = let test = took_other (left s) (left s) close_token refl other in rw (opened, test, e, unclosed) refl

pub parentheses_read : {V : Type 0} (p : Parser V) (r s m u : Reader) (vs : List V) → read_token open_token (left r) ≡ got tt (left s) → read_token close_token (left s) ≡ stopped (left s) → read_list p (left s) ≡ got vs (left m)
    → read_token close_token (left m) ≡ got tt (left u) → read_parentheses p (left r) ≡ got vs (left u)
parentheses_read p r s m u vs opened other e closed = let test = took_other (left s) (left s) close_token refl other in rw (opened, test, e, closed) refl

-- a list in braces

abbrev pub open_brace : Token
open_brace = tokens.Symbol OpenBrace

abbrev pub close_brace : Token
close_brace = tokens.Symbol CloseBrace

abbrev pub braces : {V W : Type 0} → (V → W) → Parser V → Parser W
braces f q = read_token open_brace >>= λ _. q >>= λ v. read_token close_brace >>= λ _. done (f v)

pub braces_stopped : {V W : Type 0} (f : V → W) (q : Parser V) (r s u : Reader) → read_token open_brace (left r) ≡ got tt (left s) → q (left s) ≡ stopped (left u) → braces f q (left r) ≡ stopped (left u)
braces_stopped f q r s u opened e = rw (opened, e) refl

pub braces_unclosed : {V W : Type 0} (f : V → W) (q : Parser V) (r s m u : Reader) (v : V) → read_token open_brace (left r) ≡ got tt (left s) → q (left s) ≡ got v (left m) → read_token close_brace (left m) ≡ stopped (left u)
    → braces f q (left r) ≡ stopped (left u)
braces_unclosed f q r s m u v opened e unclosed = rw (opened, e, unclosed) refl

pub braces_read : {V W : Type 0} (f : V → W) (q : Parser V) (r s m u : Reader) (v : V) → read_token open_brace (left r) ≡ got tt (left s) → q (left s) ≡ got v (left m) → read_token close_brace (left m) ≡ got tt (left u)
    → braces f q (left r) ≡ got (f v) (left u)
braces_read f q r s m u v opened e closed = rw (opened, e, closed) refl

-- a list in braces, or nothing
abbrev pub if_in_braces : {V : Type 0} → Parser (List V) → Parser (List V)
if_in_braces q = if_next (same_token open_brace) (braces (λ vs. vs) q) (done [])

pub if_in_braces_unclosed : {V : Type 0} (q : Parser (List V)) (r s m u : Reader) (vs : List V) → read_token open_brace (left r) ≡ got tt (left s) → q (left s) ≡ got vs (left m) → read_token close_brace (left m) ≡ stopped (left u)
    → if_in_braces q (left r) ≡ stopped (left u)
if_in_braces_unclosed q r s m u vs opened e unclosed = let test = took_this (left r) (left s) open_brace opened in rw test (braces_unclosed (λ vs. vs) q r s m u vs opened e unclosed)

pub if_in_braces_read : {V : Type 0} (q : Parser (List V)) (r s m u : Reader) (vs : List V) → read_token open_brace (left r) ≡ got tt (left s) → q (left s) ≡ got vs (left m) → read_token close_brace (left m) ≡ got tt (left u)
    → if_in_braces q (left r) ≡ got vs (left u)
if_in_braces_read q r s m u vs opened e closed = let test = took_this (left r) (left s) open_brace opened in rw test (braces_read (λ vs. vs) q r s m u vs opened e closed)

-- a reader that took no token

pub does_same : {T V : Type 0} (value_of : T → V) (p : Parser V) (r s u : Reader) (x : Result T Stop) → s ≡ r → Does value_of p s x u → Does value_of p r x u
does_same value_of p r s u x same d = subst (λ y. Does value_of p y x u) same d
