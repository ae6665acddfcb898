-- How the parser reads tokens.
use Rattle.std.proofs.Common.{◌≡◌, ◌≢◌, ℕ, suc, ◌-◌, ◌^◌, ◌<◌, ◌≤◌, Bool, true, false, List, [], ◌∷◌, ◌++◌, length, Option, Some, None, refl, ap, ◌∙◌, sym, subst, arith, lit<, lit≤, length-append}
use Rattle.std.specs.Prelude.{nat_le, is_some, if◌then◌else◌}
use Rattle.std.proofs.lemmas.Bool.{leb-true}
use Rattle.std.proofs.lemmas.Bool.Decides.{nat_tests}
use Rattle.std.proofs.lemmas.Option.{same_Some, none-some}
use native.Mathlib.Bridge.{le_prop}
use mathlib.Core.Path.{path_j}
use Rattle.giotto_tasks.specs.declared.names.Name.{Name}
use Rattle.giotto_tasks.specs.declared.operators.BinaryOperator.{BinaryOperator}
use Rattle.giotto_tasks.specs.declared.operators.BinaryOperator.TheVariants as operators
use Rattle.giotto_tasks.specs.declared.operators.UnaryOperator.{UnaryOperator}
use Rattle.giotto_tasks.specs.declared.operators.UnaryOperator.TheVariants as unary_operators
use Rattle.giotto_text.specs.declared.tokens.PlacedToken.{PlacedToken}
use Rattle.giotto_text.specs.declared.tokens.Symbol.TheVariants as symbols
use Rattle.giotto_text.specs.declared.tokens.Token.{Token}
use Rattle.giotto_text.specs.declared.tokens.Token.TheVariants.{Number, Name as Named, Keyword as Word, Symbol as Mark}
use Rattle.giotto_text.specs.Grammar.{Part, IsWritten, token, name, int, symbol_of_unary, symbol_of_binary, an_int as int_line}
use Rattle.giotto_text.specs.Parsing.{end_mark, Parser, done, behind, ◌>>=◌, ◌>>◌, next_of, same_token, this, name_in, number_in, unary_in, binary_in, read_one, read_token, read_name, read_int}
use Rattle.giotto_text.specs.Spelling.{SpellsParts, all_spelled, line_spelled, BeginsParts}
use Rattle.giotto_text.specs.Tokens.{bare}
use Rattle.giotto_text.proofs.Forms.{Form, one_token, mark, one, both, led, ended, Fails, Begins, Repeats, Writes, first_token_is, apart_closed, apart_mark, line_writes, same_writes}
use Rattle.giotto_text.proofs.ParserSteps.{Right, Parses, Spans, one_right, behind_right, bind_apart, mapped, parsed_as}
use Rattle.giotto_text.proofs.cited.SameToken.{same_token_self, is_this}

pub isnt_this : (t u : Token) → same_token t u ≡ false → u ≢ t
isnt_this t u e same = let yes : true ≡ false = sym (same_token_self t) ∙ ap (same_token t) (sym same) ∙ e in cc

if_some : {X : Type 0} (b : Bool) (v x : X) → (if b then Some v else None) ≡ Some x → (b ≡ true) × (v ≡ x)
if_some true v x e = (refl, same_Some v x e)
if_some false v x e = absurd (none-some x e)

if_none : {X : Type 0} (b : Bool) (v : X) → (if b then Some v else None) ≡ None → b ≡ false
if_none true v e = absurd (none-some v (sym e))
if_none false v e = refl

-- this token

pub token_parses : {n : ℕ} (t : Token) → this t end_mark ≡ None → Parses n (mark t) (λ x. x) (read_token t)
token_parses t end =
    one_right (λ _. t) tt (λ x. x) (this t) (λ u x e. (x, refl, is_this t u (if_some (same_token t u) tt x e).0)) (λ v e. isnt_this t t (if_none (same_token t t) tt e) refl) end (λ v w e. refl)

no_token_less : (t : Token) → ¬ SpellsParts [] (token t ∷ [])
no_token_less t (line_spelled w s) = elim w [ ]

passes : (t : Token) (front rest : List PlacedToken) {ts : List PlacedToken} (v : Unit {0}) → ts ≡ front ++ rest → Spans (mark t) (bare front) v (next_of rest) → length rest < length ts
passes t [] rest v is spans = absurd (no_token_less t (spans.spells [] [] all_spelled))
passes t (u ∷ front) rest v is spans = omega (arith, ap length is, length-append front rest)

led_writes : {V : Type 0} (t : Token) (F : Form V) → Writes (both (mark t) F) (led t F) (λ p. p.1)
led_writes t F = same_writes (λ v. refl) (λ w. ((tt, w), refl)) (λ u e. e)

-- fewer tokens are left after a token
pub deeper_parses : {V T : Type 0} {n : ℕ} {F : Form V} {f : V → T} {q : Parser T} (t : Token) → this t end_mark ≡ None → Parses n F f q → Parses (suc n) (led t F) f (read_token t >> q)
deeper_parses {n = n} {F = F} {q = q} t end hq =
    parsed_as (led_writes t F)
    (λ ts lt. behind_right (λ _. q) (apart_closed (mark t) F (λ u. refl)) (token_parses {n = suc n} t end ts lt)
    (λ v front rest is spans. let less = passes t front rest v is spans in hq rest (omega arith)))

pub led_parses : {V T : Type 0} {n : ℕ} {F : Form V} {f : V → T} {q : Parser T} (t : Token) → this t end_mark ≡ None → Parses n F f q → Parses n (led t F) f (read_token t >> q)
led_parses t end hq ts lt = deeper_parses t end hq ts (omega arith)

ended_writes : {V : Type 0} (F : Form V) (t : Token) → Writes (both F (mark t)) (ended F t) (λ p. p.0)
ended_writes F t = same_writes (λ v. refl) (λ w. ((w, tt), refl)) (λ u e. e)

pub ended_parses : {V S T : Type 0} {n : ℕ} {F : Form V} {f : V → S} {g : V → T} {p : Parser S} (q : S → Parser T) (t : Token) → F.goes_on t ≡ false → this t end_mark ≡ None
    → Parses n F f p → ((v : V) (ts : List PlacedToken) → q (f v) ts ≡ behind (read_token t ts) (λ _. done (g v))) → Parses n (ended F t) g (p >>= q)
ended_parses {n = n} {F = F} {f = f} {g = g} q t off end hp same =
    parsed_as (ended_writes F t)
    (bind_apart q (apart_mark F t off) hp
    (λ v ts lt. subst (Right (mark t) (λ _. g v) ts) (sym (same v ts)) (mapped {n = n} {F = mark t} {f = λ x. x} {g = λ _. g v} {p = read_token t} (λ _. done (g v)) (token_parses t end) (λ u us. refl) ts lt)))

-- values that begin with this token

pub begins_not : {V : Type 0} (t : Token) (F : Form V) (on : Token → Bool) (u : Token) → same_token t u ≡ false → (v : V) → Fails on u ((led t F).parts v)
begins_not t F on u e v us ps ex b = isnt_this t u e (first_token_is u t us (F.parts v ++ ps) b)

pub repeats_of : {V : Type 0} (F : Form V) (t : Token) → Begins F t → F.goes_on t ≡ false → same_token t end_mark ≡ false → Repeats F (same_token t)
repeats_of F t begins off end =
    record {
      starts = λ u us v ps b. ap (same_token t) (begins u us v ps b) ∙ same_token_self t;
      apart = λ u e. ap F.goes_on (is_this t u e) ∙ off;
      other = end;
    }

-- NAME

abbrev pub a_name : Form Name
a_name = one name []

name_is : (t : Token) (x : Name) → name_in t ≡ Some x → (y : Name) × (x ≡ y) × (t ≡ Named y)
name_is (Named y) x e = (y, sym (same_Some y x e), refl)
name_is (Word k) x e = absurd (none-some x e)
name_is (Number k) x e = absurd (none-some x e)
name_is (Mark k) x e = absurd (none-some x e)

pub name_parses : {n : ℕ} → Parses n a_name (λ x. x) read_name
name_parses = one_right Named [] (λ x. x) name_in name_is (λ x e. none-some x (sym e)) refl (λ v w e. cc)

-- numbers

abbrev pair : (P : ℕ → Type 0) (n : ℕ) → P n → (k : ℕ) × P k
pair P n p = (n, p)

same_pair : (P : ℕ → Type 0) → ((n : ℕ) → IsProp (P n)) → (m n : ℕ) (p : P m) (q : P n) → m ≡ n → pair P m p ≡ pair P n q
same_pair P prop m n p q e = path_j (λ x h. (r : P x) → pair P m p ≡ pair P x r) (λ r. ap (pair P m) (prop m p r)) e q

number_is : (most : ℕ) (t : Token) (m : ℕ) → number_in most t ≡ Some m → (nat_le m most ≡ true) × (t ≡ Number m)
number_is most (Number k) m e = let h = if_some (nat_le k most) k m e in (ap (λ x. nat_le x most) (sym h.1) ∙ h.0, ap Number h.1)
number_is most (Named y) m e = absurd (none-some m e)
number_is most (Word k) m e = absurd (none-some m e)
number_is most (Mark k) m e = absurd (none-some m e)

no_number : (most m : ℕ) → m ≤ most → number_in most (Number m) ≢ None
no_number most m le e = let over : nat_le m most ≡ false = if_none (nat_le m most) m e in grind (arith, nat_tests)

-- the number after the "-" of an initial value
abbrev pub a_size : Form ((n : ℕ) × (n ≤ 2 ^ 63))
a_size = one_token (λ p. Number p.0) (0, lit≤ tt)

size_is : (t : Token) (m : ℕ) → number_in (2 ^ 63) t ≡ Some m → (v : (k : ℕ) × (k ≤ 2 ^ 63)) × (m ≡ v.0) × (t ≡ Number v.0)
size_is t m e = let h = number_is (2 ^ 63) t m e in ((m, leb-true m (2 ^ 63) h.0), refl, h.1)

same_sizes : (v w : (n : ℕ) × (n ≤ 2 ^ 63)) → Number v.0 ≡ Number w.0 → v ≡ w
same_sizes v w e = let same : v.0 ≡ w.0 = cc in same_pair (λ n. n ≤ 2 ^ 63) (λ n. le_prop) v.0 w.0 v.1 w.1 same

pub size_parses : {n : ℕ} → Parses n a_size (λ p. p.0) (read_one (number_in (2 ^ 63)))
size_parses = one_right (λ p. Number p.0) a_size.some (λ p. p.0) (number_in (2 ^ 63)) size_is (λ v. no_number (2 ^ 63) v.0 v.1) refl same_sizes

-- INT

abbrev pub an_int : Form ℕ
an_int = one int 0

abbrev int_steps : Form ((n : ℕ) × (n < 2 ^ 63))
int_steps = one_token (λ p. Number p.0) (0, lit< tt)

int_comes : {n : ℕ} {line : List Part} → IsWritten (int n) line → (v : (m : ℕ) × (m < 2 ^ 63)) × (n ≡ v.0) × (line ≡ int_steps.parts v)
int_comes (int_line {n = n} lt) = ((n, lt), refl, refl)

pub int_writes : Writes int_steps an_int (λ p. p.0)
int_writes = line_writes (λ w. refl) (λ v. int_line v.1) (λ w line. int_comes) (λ t e. e)

small_is : (t : Token) (m : ℕ) → number_in (2 ^ 63 - 1) t ≡ Some m → (v : (k : ℕ) × (k < 2 ^ 63)) × (m ≡ v.0) × (t ≡ Number v.0)
small_is t m e = let h = number_is (2 ^ 63 - 1) t m e in let le : m ≤ 2 ^ 63 - 1 = leb-true m (2 ^ 63 - 1) h.0 in ((m, omega (arith, le)), refl, h.1)

same_ints : (v w : (n : ℕ) × (n < 2 ^ 63)) → Number v.0 ≡ Number w.0 → v ≡ w
same_ints v w e = let same : v.0 ≡ w.0 = cc in same_pair (λ n. n < 2 ^ 63) (λ n. le_prop) v.0 w.0 v.1 w.1 same

pub int_parses : {n : ℕ} → Parses n an_int (λ x. x) read_int
int_parses = parsed_as int_writes (one_right (λ p. Number p.0) int_steps.some (λ p. p.0) (number_in (2 ^ 63 - 1)) small_is (λ v. no_number (2 ^ 63 - 1) v.0 (omega (arith, v.1))) refl same_ints)

abbrev pub is_number : Token → Bool
is_number (Number n) = true
is_number (Named x) = false
is_number (Word k) = false
is_number (Mark s) = false

pub int_starts : (t : Token) (n : ℕ) (us : List Token) (ps : List Part) → BeginsParts (t ∷ us) (int n ∷ ps) → is_number t ≡ true
int_starts t n us ps b = let h = int_writes.only n (t ∷ us) ps b in ap is_number (first_token_is t (Number h.0.0) us ps h.1)

-- operators

abbrev pub a_unary_operator : Form UnaryOperator
a_unary_operator = one_token (λ o. Mark (symbol_of_unary o)) unary_operators.Negate

abbrev pub a_binary_operator : Form BinaryOperator
a_binary_operator = one_token (λ o. Mark (symbol_of_binary o)) operators.Add

unary_is : (t : Token) (o : UnaryOperator) → unary_in t ≡ Some o → (p : UnaryOperator) × (o ≡ p) × (t ≡ Mark (symbol_of_unary p))
unary_is (Mark symbols.Minus) o e = (unary_operators.Negate, sym (same_Some unary_operators.Negate o e), refl)
unary_is (Mark symbols.Not) o e = (unary_operators.Not, sym (same_Some unary_operators.Not o e), refl)
unary_is t o e = absurd (none-some o e)

pub unary_again : (o : UnaryOperator) → unary_in (Mark (symbol_of_unary o)) ≡ Some o
unary_again unary_operators.Negate = refl
unary_again unary_operators.Not = refl

same_unary : (o p : UnaryOperator) → Mark (symbol_of_unary o) ≡ Mark (symbol_of_unary p) → o ≡ p
same_unary o p e = same_Some o p (sym (unary_again o) ∙ ap unary_in e ∙ unary_again p)

pub unary_parses : {n : ℕ} → Parses n a_unary_operator (λ o. o) (read_one unary_in)
unary_parses = one_right (λ o. Mark (symbol_of_unary o)) unary_operators.Negate (λ o. o) unary_in unary_is (λ o e. none-some o (sym e ∙ unary_again o)) refl same_unary

binary_is : (t : Token) (o : BinaryOperator) → binary_in t ≡ Some o → (p : BinaryOperator) × (o ≡ p) × (t ≡ Mark (symbol_of_binary p))
binary_is (Mark symbols.Plus) o e = (operators.Add, sym (same_Some operators.Add o e), refl)
binary_is (Mark symbols.Minus) o e = (operators.Subtract, sym (same_Some operators.Subtract o e), refl)
binary_is (Mark symbols.Star) o e = (operators.Multiply, sym (same_Some operators.Multiply o e), refl)
binary_is (Mark symbols.Slash) o e = (operators.Divide, sym (same_Some operators.Divide o e), refl)
binary_is (Mark symbols.Percent) o e = (operators.Remainder, sym (same_Some operators.Remainder o e), refl)
binary_is (Mark symbols.EqualEqual) o e = (operators.Equal, sym (same_Some operators.Equal o e), refl)
binary_is (Mark symbols.NotEqual) o e = (operators.NotEqual, sym (same_Some operators.NotEqual o e), refl)
binary_is (Mark symbols.Less) o e = (operators.Less, sym (same_Some operators.Less o e), refl)
binary_is (Mark symbols.AtMost) o e = (operators.AtMost, sym (same_Some operators.AtMost o e), refl)
binary_is (Mark symbols.Greater) o e = (operators.Greater, sym (same_Some operators.Greater o e), refl)
binary_is (Mark symbols.AtLeast) o e = (operators.AtLeast, sym (same_Some operators.AtLeast o e), refl)
binary_is (Mark symbols.AndAnd) o e = (operators.And, sym (same_Some operators.And o e), refl)
binary_is (Mark symbols.OrOr) o e = (operators.Or, sym (same_Some operators.Or o e), refl)
binary_is t o e = absurd (none-some o e)

pub binary_again : (o : BinaryOperator) → binary_in (Mark (symbol_of_binary o)) ≡ Some o
binary_again operators.Add = refl
binary_again _ = refl

same_binary : (o p : BinaryOperator) → Mark (symbol_of_binary o) ≡ Mark (symbol_of_binary p) → o ≡ p
same_binary o p e = same_Some o p (sym (binary_again o) ∙ ap binary_in e ∙ binary_again p)

pub binary_parses : {n : ℕ} → Parses n a_binary_operator (λ o. o) (read_one binary_in)
binary_parses = one_right (λ o. Mark (symbol_of_binary o)) operators.Add (λ o. o) binary_in binary_is (λ o e. none-some o (sym e ∙ binary_again o)) refl same_binary

-- other tokens aren't operators
pub no_some : {X : Type 0} (o : Option X) (x : X) → is_some o ≡ false → o ≢ Some x
no_some o x e f = let no : false ≡ true = sym e ∙ ap is_some f in cc
