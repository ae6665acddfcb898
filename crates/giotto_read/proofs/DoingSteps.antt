-- Single tokens: the reader takes them as the parser does.
use Rattle.std.proofs.Common.{◌≡◌, ◌≢◌, ℕ, zero, suc, ◌+◌, ◌≤◌, Bool, true, false, List, [], ◌∷◌, length, drop, Option, Some, None, slice_get, refl, sym, ap, ◌∙◌, arith}
use Rattle.std.specs.Prelude.{if◌then◌else◌, nat_le, Err}
use Rattle.giotto_text.specs.declared.faults.ReadFault.TheVariants.{Syntax, TooDeep}
use Rattle.giotto_text.specs.Nesting.{nests_too_deep}
use Rattle.giotto_text.specs.Program.{GiottoProgram}
use Rattle.giotto_text.specs.Tokens.{bare}
use Rattle.std.proofs.lemmas.Bool.{le-leb, cases_lt}
use Rattle.std.proofs.lemmas.Option.{same_Some, none-some}
use Rattle.giotto_read.specs.declared.reader.Reader.{Reader}
use Rattle.giotto_text.specs.declared.tokens.PlacedToken.{PlacedToken}
use Rattle.giotto_text.specs.declared.tokens.Token.{Token}
use Rattle.giotto_text.specs.declared.tokens.Token.TheVariants.{Name as Named, Number, Symbol as Mark}
use Rattle.giotto_text.specs.declared.tokens.Symbol.{Symbol}
use Rattle.giotto_read.specs.inner.Doing.{left, with_end, offset_at, ComesNext}
use Rattle.giotto_text.specs.Parsing.{end_mark, Outcome, got, stopped, reading, read_all, read_program, taken, read_one, next_of, same_token, this, name_in, is_name, number_in, unary_in, binary_in}
use Rattle.giotto_read.proofs.NextToken.{next_token}
use Rattle.giotto_text.proofs.cited.SameToken.{same_token_self, is_this}

-- the next token is the first one that is left
next_left : (ts : List PlacedToken) (i : ℕ) (t : Token) → slice_get (with_end ts) i ≡ Some t → next_of (drop i ts) ≡ t
next_left [] zero t e = same_Some end_mark t e
next_left [] (suc i) t e = absurd (none-some t e)
next_left (p ∷ ts) zero t e = same_Some p.token t e
next_left (p ∷ ts) (suc i) t e = next_left ts i t e

pub comes_next : (r : Reader) (t : Token) → ComesNext r t → next_of (left r) ≡ t
comes_next r t e = next_left r.tokens.now r.at t e

drop_next : (ts : List PlacedToken) (i : ℕ) (t : Token) → slice_get (with_end ts) i ≡ Some t → t ≢ end_mark → (p : PlacedToken) × (p.token ≡ t) × (drop i ts ≡ p ∷ drop (i + 1) ts)
drop_next [] zero t e other = absurd (other (sym (same_Some end_mark t e)))
drop_next [] (suc i) t e other = absurd (none-some t e)
drop_next (p ∷ ts) zero t e other = (p, same_Some p.token t e, refl)
drop_next (p ∷ ts) (suc i) t e other = let n : suc i + 1 ≡ suc (i + 1) = omega arith in let h = drop_next ts i t e other in (h.0, h.1, h.2 ∙ ap (λ m. h.0 ∷ drop m (p ∷ ts)) (sym n))

pub one_got : {V : Type 0} (f : Token → Option V) (r : Reader) (t : Token) (v : V) → ComesNext r t → t ≢ end_mark → f t ≡ Some v → read_one f (left r) ≡ got v (drop (r.at + 1) r.tokens.now)
one_got f r t v e other fits =
    let h = drop_next r.tokens.now r.at t e other in
    ap (read_one f) h.2 ∙ ap (λ o. taken o (drop (r.at + 1) r.tokens.now) (h.0 ∷ drop (r.at + 1) r.tokens.now)) (ap f h.1 ∙ fits)

refuses : {V : Type 0} (f : Token → Option V) (ts : List PlacedToken) → f (next_of ts) ≡ None → read_one f ts ≡ stopped ts
refuses f [] e = refl
refuses f (p ∷ ts) e = ap (λ o. taken o ts (p ∷ ts)) e

pub one_stopped : {V : Type 0} (f : Token → Option V) (r : Reader) (t : Token) → ComesNext r t → f t ≡ None → read_one f (left r) ≡ stopped (left r)
one_stopped f r t e none = refuses f (left r) (ap f (comes_next r t e) ∙ none)

pub this_self : (t : Token) → this t t ≡ Some tt
this_self t = ap (λ b. if b then Some tt else None) (same_token_self t)

this_other : (t u : Token) (b : Bool) → same_token t u ≡ b → u ≢ t → this t u ≡ None
this_other t u true e other = absurd (other (is_this t u e))
this_other t u false e other = ap (λ b. if b then Some tt else None) e

-- the next token isn't this one
pub not_this : (r : Reader) (t : Token) → ¬ ComesNext r t → read_one (this t) (left r) ≡ stopped (left r)
not_this r t not =
    let next = next_token r in
    one_stopped (this t) r next.0 next.1 (this_other t next.0 (same_token t next.0) refl (λ same. not (next.1 ∙ ap Some same)))

no_name_in : (t : Token) → ((x : List ℕ) → t ≢ Named x) → name_in t ≡ None
no_name_in (Named x) none = absurd (none x refl)
no_name_in t none = refl

pub not_name : (r : Reader) → ((x : List ℕ) → ¬ ComesNext r (Named x)) → read_one name_in (left r) ≡ stopped (left r)
not_name r none =
    let next = next_token r in
    one_stopped name_in r next.0 next.1 (no_name_in next.0 (λ x same. none x (next.1 ∙ ap Some same)))

pub number_fits : (most n : ℕ) → n ≤ most → number_in most (Number n) ≡ Some n
number_fits most n le = ap (λ b. if b then Some n else None) (le-leb n most le)

no_number_in : (most : ℕ) (t : Token) → ((n : ℕ) → n ≤ most → t ≢ Number n) → number_in most t ≡ None
no_number_in most (Number n) none = by (nat_le n most) refl
  where
    by : (b : Bool) → nat_le n most ≡ b → (if b then Some n else None) ≡ None
    by true e = absurd (none n (Rattle.std.proofs.lemmas.Bool.leb-true n most e) refl)
    by false e = refl
no_number_in most t none = refl

pub not_number : (most : ℕ) (r : Reader) → ((n : ℕ) → n ≤ most → ¬ ComesNext r (Number n)) → read_one (number_in most) (left r) ≡ stopped (left r)
not_number most r none =
    let next = next_token r in
    one_stopped (number_in most) r next.0 next.1 (no_number_in most next.0 (λ n le same. none n le (next.1 ∙ ap Some same)))

no_name_test : (t : Token) → ((x : List ℕ) → t ≢ Named x) → is_name t ≡ false
no_name_test (Named x) none = absurd (none x refl)
no_name_test t none = refl

pub is_no_name : (r : Reader) → ((x : List ℕ) → ¬ ComesNext r (Named x)) → is_name (next_of (left r)) ≡ false
is_no_name r none = let next = next_token r in ap is_name (comes_next r next.0 next.1) ∙ no_name_test next.0 (λ x same. none x (next.1 ∙ ap Some same))

-- operators

no_unary_in : (t : Token) → ((s : Symbol) → t ≢ Mark s) → unary_in t ≡ None
no_unary_in (Mark s) none = absurd (none s refl)
no_unary_in t none = refl

no_binary_in : (t : Token) → ((s : Symbol) → t ≢ Mark s) → binary_in t ≡ None
no_binary_in (Mark s) none = absurd (none s refl)
no_binary_in t none = refl

pub not_unary : (r : Reader) → ((s : Symbol) → ¬ ComesNext r (Mark s)) → read_one unary_in (left r) ≡ stopped (left r)
not_unary r none = let next = next_token r in one_stopped unary_in r next.0 next.1 (no_unary_in next.0 (λ s same. none s (next.1 ∙ ap Some same)))

pub not_binary : (r : Reader) → ((s : Symbol) → ¬ ComesNext r (Mark s)) → read_one binary_in (left r) ≡ stopped (left r)
not_binary r none = let next = next_token r in one_stopped binary_in r next.0 next.1 (no_binary_in next.0 (λ s same. none s (next.1 ∙ ap Some same)))

-- what the position of a reader says about all tokens

pub reads_stopped : (ts : List PlacedToken) (i end : ℕ) → reading end (stopped (drop i ts)) ≡ Err (Syntax (offset_at ts i end))
reads_stopped [] zero end = refl
reads_stopped [] (suc i) end = refl
reads_stopped (t ∷ ts) zero end = refl
reads_stopped (t ∷ ts) (suc i) end = reads_stopped ts i end

pub reads_behind : (ts : List PlacedToken) (i end : ℕ) (p : GiottoProgram) → i ≤ length ts → i ≢ length ts → reading end (got p (drop i ts)) ≡ Err (Syntax (offset_at ts i end))
reads_behind [] zero end p le other = absurd (other refl)
reads_behind [] (suc i) end p le other = absurd (omega arith)
reads_behind (t ∷ ts) zero end p le other = refl
reads_behind (t ∷ ts) (suc i) end p le other = reads_behind ts i end p (omega arith) (λ e. other (ap suc e))

pub nothing_left : (ts : List PlacedToken) (i : ℕ) → i ≡ length ts → drop i ts ≡ []
nothing_left [] zero e = refl
nothing_left [] (suc i) e = refl
nothing_left (t ∷ ts) zero e = absurd (omega arith)
nothing_left (t ∷ ts) (suc i) e = nothing_left ts i (omega arith)

pub all_left : (r : Reader) (ts : List PlacedToken) → r.tokens.now ≡ ts → r.at ≡ 0 → left r ≡ ts
all_left r ts is start = ap (λ n. drop n r.tokens.now) start ∙ is

-- what all tokens read as, if they don't nest too deep
pub read_of : (r : Reader) (ts : List PlacedToken) (o : Outcome GiottoProgram) → r.tokens.now ≡ ts → r.at ≡ 0 → nests_too_deep (bare ts) ≡ false → read_program (left r) ≡ o → (end : ℕ) → read_all end ts ≡ reading end o
read_of r ts o is start flat e end =
    ap (λ b. if b then Err TooDeep else reading end (read_program ts)) flat ∙ ap (λ us. reading end (read_program us)) (sym (all_left r ts is start)) ∙ ap (reading end) e
