-- Tokens without some of their brackets: sound tokens stay sound, and tokens that don't nest too deep still don't.
use Rattle.std.specs.Prelude.{nat_le}
use Rattle.std.proofs.Common.{◌≡◌, ℕ, suc, ◌-◌, ◌≤◌, pos, negsuc, true, false, ◌||◌, List, [], ◌∷◌, ◌++◌, refl, ap, sym, ◌∙◌, subst, arith}
use Rattle.std.proofs.lemmas.Bool.{and_parts, and_from, or_parts}
use Rattle.std.proofs.lemmas.Bool.Decides.{nat_tests}
use Rattle.std.proofs.lemmas.List.{append_assoc}
use Rattle.std.proofs.lemmas.List.Folds.{list_all-append}
use Rattle.std.specs.List.{list_all}
use Rattle.giotto_tasks.specs.declared.operators.UnaryOperator.{UnaryOperator}
use Rattle.giotto_tasks.specs.declared.operators.UnaryOperator.TheVariants.{Negate}
use Rattle.giotto_tasks.specs.declared.operators.BinaryOperator.{BinaryOperator}
use Rattle.giotto_tasks.specs.declared.operators.BinaryOperator.TheVariants.{Add}
use Rattle.giotto_tasks.specs.Syntax.{Expression, number, port, unary, binary}
use Rattle.giotto_text.specs.declared.tokens.Symbol.TheVariants.{OpenParenthesis, CloseParenthesis, OpenBrace, CloseBrace}
use Rattle.giotto_text.specs.declared.tokens.Token.{Token}
use Rattle.giotto_text.specs.declared.tokens.Token.TheVariants as tokens
use Rattle.giotto_text.specs.Canonical.{symbol, operand_tokens, expression_tokens}
use Rattle.giotto_text.specs.Grammar.{symbol_of_unary, symbol_of_binary}
use Rattle.giotto_text.specs.Nesting.{open_behind, nests_too_deep_from}
use Rattle.giotto_text.specs.Sound.{is_sound_token}

-- how many are open after the tokens
abbrev pub open_after : ℕ → List Token → ℕ
open_after n [] = n
open_after n (t ∷ ts) = open_after (open_behind n t) ts

pub open_after-append : (n : ℕ) (ts us : List Token) → open_after n (ts ++ us) ≡ open_after (open_after n ts) us
open_after-append n [] us = refl
open_after-append n (t ∷ ts) us = open_after-append (open_behind n t) ts us

-- two token lists in a row: if together they don't nest too deep, neither does
pub deep_parts : (n : ℕ) (ts us : List Token) → nests_too_deep_from n (ts ++ us) ≡ false
    → (nests_too_deep_from n ts ≡ false) × (nests_too_deep_from (open_after n ts) us ≡ false)
deep_parts n [] us h = (refl, h)
deep_parts n (t ∷ ts) us h =
    let each = or_parts (nat_le 33 (open_behind n t)) (nests_too_deep_from (open_behind n t) (ts ++ us)) h in
    let rest = deep_parts (open_behind n t) ts us each.1 in
    (ap (λ b. b || nests_too_deep_from (open_behind n t) ts) each.0 ∙ rest.0, rest.1)

deep_from : (n : ℕ) (ts us : List Token) → nests_too_deep_from n ts ≡ false → nests_too_deep_from (open_after n ts) us ≡ false
    → nests_too_deep_from n (ts ++ us) ≡ false
deep_from n [] us h g = g
deep_from n (t ∷ ts) us h g =
    let each = or_parts (nat_le 33 (open_behind n t)) (nests_too_deep_from (open_behind n t) ts) h in
    ap (λ b. b || nests_too_deep_from (open_behind n t) (ts ++ us)) each.0 ∙ deep_from (open_behind n t) ts us each.1 g

open_behind-le : (m n : ℕ) (t : Token) → m ≤ n → open_behind m t ≤ open_behind n t
open_behind-le m n (tokens.Symbol OpenParenthesis) le = omega arith
open_behind-le m n (tokens.Symbol OpenBrace) le = omega arith
open_behind-le m n (tokens.Symbol CloseParenthesis) le = omega arith
open_behind-le m n (tokens.Symbol CloseBrace) le = omega arith
open_behind-le m n _ le = le

not_above : (a b : ℕ) → a ≤ b → nat_le 33 b ≡ false → nat_le 33 a ≡ false
not_above a b le e = grind (arith, nat_tests)

-- if fewer are open before, tokens nest no deeper
pub deep_less : (m n : ℕ) (ts : List Token) → m ≤ n → nests_too_deep_from n ts ≡ false → nests_too_deep_from m ts ≡ false
deep_less m n [] le h = refl
deep_less m n (t ∷ ts) le h =
    let less = open_behind-le m n t le in
    let each = or_parts (nat_le 33 (open_behind n t)) (nests_too_deep_from (open_behind n t) ts) h in
    ap (λ b. b || nests_too_deep_from (open_behind m t) ts) (not_above (open_behind m t) (open_behind n t) less each.0)
    ∙ deep_less (open_behind m t) (open_behind n t) ts less each.1

-- as many are open after the tokens as before
pub record IsBalanced (ts : List Token) : Type 0 where
  pub same : (n : ℕ) → open_after n ts ≡ n

balanced_append : (ts us : List Token) → IsBalanced ts → IsBalanced us → IsBalanced (ts ++ us)
balanced_append ts us b d = record { same = λ n. open_after-append n ts us ∙ ap (λ k. open_after k us) (b.same n) ∙ d.same n }

balanced_brackets : (ts : List Token) → IsBalanced ts → IsBalanced (symbol OpenParenthesis ∷ ts ++ symbol CloseParenthesis ∷ [])
balanced_brackets ts b = record { same = λ n. open_after-append (suc n) ts (symbol CloseParenthesis ∷ []) ∙ ap (λ k. k - 1) (b.same (suc n)) ∙ omega arith }

pub unary_symbol_opens_none : (n : ℕ) (o : UnaryOperator) → open_behind n (symbol (symbol_of_unary o)) ≡ n
unary_symbol_opens_none n Negate = refl
unary_symbol_opens_none n _ = refl

pub binary_symbol_opens_none : (n : ℕ) (o : BinaryOperator) → open_behind n (symbol (symbol_of_binary o)) ≡ n
binary_symbol_opens_none n Add = refl
binary_symbol_opens_none n _ = refl

balanced_behind : (t : Token) (ts : List Token) → ((n : ℕ) → open_behind n t ≡ n) → IsBalanced ts → IsBalanced (t ∷ ts)
balanced_behind t ts none b = record { same = λ n. ap (λ k. open_after k ts) (none n) ∙ b.same n }

pub balanced_operand : (e : Expression) (ts : List Token) → IsBalanced ts → IsBalanced (operand_tokens e ts)
balanced_operand (number z) ts b = b
balanced_operand (port x) ts b = b
balanced_operand (unary o e) ts b = balanced_brackets ts b
balanced_operand (binary o c d) ts b = balanced_brackets ts b

pub balanced_expression : (e : Expression) → IsBalanced (expression_tokens e)
balanced_expression (number (pos n)) = record { same = λ k. refl }
balanced_expression (number (negsuc n)) = record { same = λ k. refl }
balanced_expression (port x) = record { same = λ k. refl }
balanced_expression (unary o e) =
    balanced_behind (symbol (symbol_of_unary o)) (operand_tokens e (expression_tokens e)) (λ n. unary_symbol_opens_none n o)
    (balanced_operand e (expression_tokens e) (balanced_expression e))
balanced_expression (binary o a b) =
    balanced_append (operand_tokens a (expression_tokens a)) (symbol (symbol_of_binary o) ∷ operand_tokens b (expression_tokens b))
    (balanced_operand a (expression_tokens a) (balanced_expression a))
    (balanced_behind (symbol (symbol_of_binary o)) (operand_tokens b (expression_tokens b)) (λ n. binary_symbol_opens_none n o)
    (balanced_operand b (expression_tokens b) (balanced_expression b)))

-- us in place of ts, whatever follows: sound tokens stay sound, and tokens that don't nest too deep still don't.
pub record Keeps (ts us : List Token) : Type 0 where
  pub sound : (rest : List Token) → list_all is_sound_token (ts ++ rest) ≡ true → list_all is_sound_token (us ++ rest) ≡ true
  pub shallow : (n : ℕ) (rest : List Token) → nests_too_deep_from n (ts ++ rest) ≡ false → nests_too_deep_from n (us ++ rest) ≡ false

pub keeps_same : {ts us : List Token} → ts ≡ us → Keeps ts us
keeps_same {ts = ts} e = subst (λ vs. Keeps ts vs) e (record { sound = λ rest h. h; shallow = λ n rest h. h })

pub keeps_through : {ts us vs : List Token} → Keeps ts us → Keeps us vs → Keeps ts vs
keeps_through k l = record { sound = λ rest h. l.sound rest (k.sound rest h); shallow = λ n rest h. l.shallow n rest (k.shallow n rest h) }

pub keeps_token : (t : Token) {ts us : List Token} → Keeps ts us → Keeps (t ∷ ts) (t ∷ us)
keeps_token t {ts = ts} {us = us} k = record {
  sound = λ rest h.
      let each = and_parts (is_sound_token t) (list_all is_sound_token (ts ++ rest)) h in
      and_from (is_sound_token t) (list_all is_sound_token (us ++ rest)) each.0 (k.sound rest each.1);
  shallow = λ n rest h.
      let each = or_parts (nat_le 33 (open_behind n t)) (nests_too_deep_from (open_behind n t) (ts ++ rest)) h in
      ap (λ b. b || nests_too_deep_from (open_behind n t) (us ++ rest)) each.0 ∙ k.shallow (open_behind n t) rest each.1;
}

pub keeps_behind : (front : List Token) {ts us : List Token} → Keeps ts us → Keeps (front ++ ts) (front ++ us)
keeps_behind [] k = k
keeps_behind (t ∷ front) k = keeps_token t (keeps_behind front k)

pub keeps_before : {ts us : List Token} (behind : List Token) → Keeps ts us → Keeps (ts ++ behind) (us ++ behind)
keeps_before {ts = ts} {us = us} behind k = record {
  sound = λ rest h. rw (append_assoc us behind rest) (k.sound (behind ++ rest) (rw (append_assoc ts behind rest) at h));
  shallow = λ n rest h. rw (append_assoc us behind rest) (k.shallow n (behind ++ rest) (rw (append_assoc ts behind rest) at h));
}

sound_parts : (ts us : List Token) → list_all is_sound_token (ts ++ us) ≡ true → (list_all is_sound_token ts ≡ true) × (list_all is_sound_token us ≡ true)
sound_parts ts us h = and_parts (list_all is_sound_token ts) (list_all is_sound_token us) (sym (list_all-append is_sound_token ts us) ∙ h)

-- without the parentheses round balanced tokens
pub parentheses_dropped : (ts : List Token) → IsBalanced ts → Keeps (symbol OpenParenthesis ∷ ts ++ symbol CloseParenthesis ∷ []) ts
parentheses_dropped ts b = record { sound = sound; shallow = shallow }
  where
    close : Token
    close = symbol CloseParenthesis

    sound : (rest : List Token) → list_all is_sound_token ((ts ++ close ∷ []) ++ rest) ≡ true → list_all is_sound_token (ts ++ rest) ≡ true
    sound rest h =
        let each = sound_parts ts (close ∷ rest) (ap (list_all is_sound_token) (sym (append_assoc ts (close ∷ []) rest)) ∙ h) in
        list_all-append is_sound_token ts rest ∙ and_from (list_all is_sound_token ts) (list_all is_sound_token rest) each.0 each.1

    shallow : (n : ℕ) (rest : List Token) → nests_too_deep_from n ((symbol OpenParenthesis ∷ ts ++ close ∷ []) ++ rest) ≡ false
        → nests_too_deep_from n (ts ++ rest) ≡ false
    shallow n rest h =
        let within = (or_parts (nat_le 33 (suc n)) (nests_too_deep_from (suc n) ((ts ++ close ∷ []) ++ rest)) h).1 in
        let each = deep_parts (suc n) ts (close ∷ rest) (ap (nests_too_deep_from (suc n)) (sym (append_assoc ts (close ∷ []) rest)) ∙ within) in
        let closing : nests_too_deep_from (suc n) (close ∷ rest) ≡ false = subst (λ k. nests_too_deep_from k (close ∷ rest) ≡ false) (b.same (suc n)) each.1 in
        let back : suc n - 1 ≡ n = omega arith in
        let behind : nests_too_deep_from n rest ≡ false =
        subst (λ k. nests_too_deep_from k rest ≡ false) back (or_parts (nat_le 33 (suc n - 1)) (nests_too_deep_from (suc n - 1) rest) closing).1 in
        deep_from n ts rest (deep_less n (suc n) ts (omega arith) each.0) (subst (λ k. nests_too_deep_from k rest ≡ false) (sym (b.same n)) behind)

-- a pair of braces with nothing between them
pub braces_dropped : Keeps (symbol OpenBrace ∷ symbol CloseBrace ∷ []) []
braces_dropped = record { sound = λ rest h. h; shallow = shallow }
  where
    shallow : (n : ℕ) (rest : List Token) → nests_too_deep_from n (symbol OpenBrace ∷ symbol CloseBrace ∷ rest) ≡ false → nests_too_deep_from n rest ≡ false
    shallow n rest h =
        let back : suc n - 1 ≡ n = omega arith in
        let closing = (or_parts (nat_le 33 (suc n)) (nests_too_deep_from (suc n) (symbol CloseBrace ∷ rest)) h).1 in
        subst (λ k. nests_too_deep_from k rest ≡ false) back (or_parts (nat_le 33 (suc n - 1)) (nests_too_deep_from (suc n - 1) rest) closing).1

-- a token that opens and closes nothing
pub token_dropped : (t : Token) → ((n : ℕ) → open_behind n t ≡ n) → Keeps (t ∷ []) []
token_dropped t none = record { sound = λ rest h. (and_parts (is_sound_token t) (list_all is_sound_token rest) h).1; shallow = shallow }
  where
    shallow : (n : ℕ) (rest : List Token) → nests_too_deep_from n (t ∷ rest) ≡ false → nests_too_deep_from n rest ≡ false
    shallow n rest h =
        subst (λ k. nests_too_deep_from k rest ≡ false) (none n) (or_parts (nat_le 33 (open_behind n t)) (nests_too_deep_from (open_behind n t) rest) h).1
