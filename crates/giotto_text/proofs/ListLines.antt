-- Lists and their parsers: repetitions, lists with commas, lists in parentheses, and lists after a keyword.
use Rattle.std.proofs.Common.{◌≡◌, ◌⊎◌, inl, inr, ℕ, Bool, true, false, List, [], ◌∷◌, ◌++◌, map, Option, Some, None, refl, ap, subst}
use Rattle.std.specs.Prelude.{◌||◌}
use Rattle.std.specs.List.{flat_map}
use Rattle.std.proofs.lemmas.List.Concat.{flat_map_single}
use Rattle.giotto_text.specs.declared.tokens.Keyword.{Keyword}
use Rattle.giotto_text.specs.declared.tokens.Symbol.TheVariants as symbols
use Rattle.giotto_text.specs.declared.tokens.Token.{Token}
use Rattle.giotto_text.specs.declared.tokens.Token.TheVariants.{Keyword as Word, Symbol as Mark}
use Rattle.giotto_text.specs.Grammar.{Part, token, symbol, separated, list_behind}
use Rattle.giotto_text.specs.Parsing.{Parser, same_token, is_symbol, is_keyword, many as read_many, read_list, read_parentheses, read_list_behind}
use Rattle.giotto_text.specs.Spelling.{BeginsParts}
use Rattle.giotto_text.proofs.Forms.{Form, closed, element, one, mark, led, ended, both, either, many, optional, Fails, Begins, MayBegin, Repeats, Writes, or_right, first_token_is, led_begins, apart_many, same_writes}
use Rattle.giotto_text.proofs.ParserSteps.{Parses, bind_apart, mapped, parsed_as, either_parses, optional_parses, many_parses}
use Rattle.giotto_text.proofs.ParserTokens.{isnt_this, begins_not, repeats_of, token_parses, led_parses, ended_parses}
use Rattle.giotto_text.proofs.cited.SameToken.{is_this}
use Rattle.giotto_text.proofs.ExpressionLines.{opening, closing}

-- a part, repeated as long as such a token comes next
abbrev pub any : {V : Type 0} → (V → Part) → (Token → Bool) → Form (List V)
any P test = record { parts = map P; some = []; goes_on = λ t. test t || false }

any_writes : {V : Type 0} (P : V → Part) (d : V) (test : Token → Bool) → Writes (many (one P d) test) (any P test) (λ xs. xs)
any_writes P d test = same_writes (flat_map_single P) (λ w. (w, refl)) (λ t e. e)

pub any_parses : {V : Type 0} {n : ℕ} {P : V → Part} {d : V} {p : Parser V} (test : Token → Bool) → Repeats (one P d) test → Parses n (one P d) (λ v. v) p → Parses n (any P test) (λ vs. vs) (read_many test p)
any_parses {P = P} {d = d} test rep hp = parsed_as (any_writes P d test) (many_parses rep (λ t e. e) hp)

pub any_begins : {V : Type 0} (P : V → Part) (d : V) (test : Token → Bool) (first : Token) → Begins (one P d) first → MayBegin (any P test) first
any_begins P d test first begins [] = inl refl
any_begins P d test first begins (x ∷ xs) = inr (λ t us ps b. begins t us x (map P xs ++ ps) b)

-- x {"," x}

abbrev pub comma : Token
comma = Mark symbols.Comma

abbrev pub list_of : {V : Type 0} → (V → Part) → V → (Token → Bool) → Form (V × List V)
list_of P d test = record { parts = λ p. separated (map P (p.0 ∷ p.1)); some = (d, []); goes_on = λ t. is_symbol symbols.Comma t || test t }

abbrev list_steps : {V : Type 0} → (V → Part) → V → (Token → Bool) → Form (V × List V)
list_steps P d test = both (element P d test) (many (led comma (element P d test)) (is_symbol symbols.Comma))

list_parts : {V : Type 0} (P : V → Part) (d : V) (test : Token → Bool) (x : V) (xs : List V) → P x ∷ flat_map (led comma (element P d test)).parts xs ≡ separated (map P (x ∷ xs))
list_parts P d test x [] = refl
list_parts P d test x (y ∷ ys) = ap (λ ps. P x ∷ token comma ∷ ps) (list_parts P d test y ys)

list_writes : {V : Type 0} (P : V → Part) (d : V) (test : Token → Bool) → Writes (list_steps P d test) (list_of P d test) (λ p. p)
list_writes P d test = same_writes (λ v. list_parts P d test v.0 v.1) (λ w. (w, refl)) (λ t e. e)

pub list_parses : {V : Type 0} {n : ℕ} {P : V → Part} {d : V} {test : Token → Bool} {p : Parser V} → test comma ≡ false
    → Parses n (element P d test) (λ v. v) p → Parses n (list_of P d test) (λ x. x.0 ∷ x.1) (read_list p)
list_parses {P = P} {d = d} {test = test} off hp =
    let next = led comma (element P d test) in
    parsed_as (list_writes P d test)
    (bind_apart _ (apart_many (element P d test) next (is_symbol symbols.Comma) comma (led_begins comma (element P d test)) off (λ t. or_right (is_symbol symbols.Comma t) (test t))) hp
    (λ x. mapped _ (many_parses (repeats_of next comma (led_begins comma (element P d test)) off refl) (λ t e. e) (led_parses comma refl hp)) (λ vs ts. refl)))

-- "(" [x {"," x}] ")"

abbrev pub in_parentheses : {V : Type 0} → (V → Part) → Form (List V)
in_parentheses P = record { parts = λ xs. symbol symbols.OpenParenthesis ∷ separated (map P xs) ++ symbol symbols.CloseParenthesis ∷ []; some = []; goes_on = closed }

abbrev parentheses_steps : {V : Type 0} → (V → Part) → V → (Token → Bool) → Form (Unit {0} ⊎ (V × List V))
parentheses_steps P d test = led opening (either (mark closing) (ended (list_of P d test) closing) closed)

abbrev parentheses_from : {V : Type 0} → Unit {0} ⊎ (V × List V) → List V
parentheses_from (inl u) = []
parentheses_from (inr p) = p.0 ∷ p.1

parentheses_parts : {V : Type 0} (P : V → Part) (d : V) (test : Token → Bool) (v : Unit {0} ⊎ (V × List V)) → (parentheses_steps P d test).parts v ≡ (in_parentheses P).parts (parentheses_from v)
parentheses_parts P d test (inl u) = refl
parentheses_parts P d test (inr p) = refl

parentheses_again : {V : Type 0} (xs : List V) → (v : Unit {0} ⊎ (V × List V)) × (xs ≡ parentheses_from v)
parentheses_again [] = (inl tt, refl)
parentheses_again (x ∷ xs) = (inr (x, xs), refl)

parentheses_writes : {V : Type 0} (P : V → Part) (d : V) (test : Token → Bool) → Writes (parentheses_steps P d test) (in_parentheses P) parentheses_from
parentheses_writes P d test = same_writes (parentheses_parts P d test) parentheses_again (λ t e. e)

abbrev first_of_list : {V : Type 0} → (V → Part) → List V → List Part
first_of_list P [] = []
first_of_list P (x ∷ xs) = symbol symbols.Comma ∷ separated (map P (x ∷ xs))

separated_first : {V : Type 0} (P : V → Part) (x : V) (xs : List V) → separated (map P (x ∷ xs)) ≡ P x ∷ first_of_list P xs
separated_first P x [] = refl
separated_first P x (y ∷ ys) = refl

no_list_closed : {V : Type 0} (P : V → Part) (d : V) (test : Token → Bool) → ((us : List Token) (x : V) (ps : List Part) → ¬ BeginsParts (closing ∷ us) (P x ∷ ps))
    → (t : Token) → same_token closing t ≡ true → (w : V × List V) → Fails closed t ((ended (list_of P d test) closing).parts w)
no_list_closed P d test never t e w us ps ex b =
    never us w.0 ((first_of_list P w.1 ++ token closing ∷ []) ++ ps)
    (subst (λ x. BeginsParts (closing ∷ us) ((x ++ token closing ∷ []) ++ ps)) (separated_first P w.0 w.1) (subst (λ u. BeginsParts (u ∷ us) ((ended (list_of P d test) closing).parts w ++ ps)) (is_this closing t e) b))

pub parentheses_parse : {V : Type 0} {n : ℕ} {P : V → Part} {d : V} {test : Token → Bool} {p : Parser V} → test comma ≡ false → test closing ≡ false
    → ((us : List Token) (x : V) (ps : List Part) → ¬ BeginsParts (closing ∷ us) (P x ∷ ps)) → Parses n (element P d test) (λ v. v) p → Parses n (in_parentheses P) (λ vs. vs) (read_parentheses p)
parentheses_parse {P = P} {d = d} {test = test} no_comma no_closing never hp =
    parsed_as (parentheses_writes P d test)
    (led_parses opening refl
    (either_parses (λ t e. e) (λ t e. e) (no_list_closed P d test never) (λ u e v us ps ex b. isnt_this closing u e (first_token_is u closing us ps b))
    (mapped _ (token_parses closing refl) (λ v ts. refl))
    (ended_parses _ closing no_closing refl (list_parses no_comma hp) (λ v ts. refl))))

-- [the keyword, x {"," x}]

abbrev pub behind : {V : Type 0} → Keyword → (V → Part) → Form (List V)
behind k P = record { parts = λ xs. list_behind k (map P xs); some = []; goes_on = λ t. is_keyword k t || (is_symbol symbols.Comma t || false) }

abbrev behind_steps : {V : Type 0} → Keyword → (V → Part) → V → Form (Option (V × List V))
behind_steps k P d = optional (led (Word k) (list_of P d closed)) (is_keyword k)

abbrev behind_from : {V : Type 0} → Option (V × List V) → List V
behind_from None = []
behind_from (Some p) = p.0 ∷ p.1

behind_parts : {V : Type 0} (k : Keyword) (P : V → Part) (d : V) (o : Option (V × List V)) → (behind_steps k P d).parts o ≡ (behind k P).parts (behind_from o)
behind_parts k P d None = refl
behind_parts k P d (Some p) = refl

behind_again : {V : Type 0} (xs : List V) → (o : Option (V × List V)) × (xs ≡ behind_from o)
behind_again [] = (None, refl)
behind_again (x ∷ xs) = (Some (x, xs), refl)

behind_writes : {V : Type 0} (k : Keyword) (P : V → Part) (d : V) → Writes (behind_steps k P d) (behind k P) behind_from
behind_writes k P d = same_writes (behind_parts k P d) behind_again (λ t e. e)

pub behind_parses : {V : Type 0} {n : ℕ} {P : V → Part} {d : V} {p : Parser V} (k : Keyword) → Parses n (one P d) (λ v. v) p → Parses n (behind k P) (λ vs. vs) (read_list_behind k p)
behind_parses {P = P} {d = d} k hp =
    parsed_as (behind_writes k P d)
    (optional_parses (begins_not (Word k) (list_of P d closed) (behind k P).goes_on)
    (led_parses (Word k) refl (mapped _ (list_parses refl hp) (λ v ts. refl)))
    (λ ts. refl))

pub behind_begins : {V : Type 0} (k : Keyword) (P : V → Part) → MayBegin (behind k P) (Word k)
behind_begins k P [] = inl refl
behind_begins k P (x ∷ xs) = inr (λ t us ps b. first_token_is t (Word k) us _ b)
