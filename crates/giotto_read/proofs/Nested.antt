-- Nested expressions and blocks: the parser's bound doesn't matter, if it is large enough.
use Rattle.std.proofs.Common.{◌≡◌, ℕ, zero, suc, ◌<◌, ◌≤◌, Bool, true, false, List, [], ◌∷◌, length, Option, refl, sym, ap, ◌∙◌, arith}
use Rattle.std.specs.Prelude.{Result, Ok, Err, not}
use Rattle.giotto_read.specs.inner.Doing.{left, Does}
use Rattle.giotto_read.specs.declared.reader.Reader.{Reader}
use Rattle.giotto_read.specs.declared.reader.Stop.{Stop}
use Rattle.giotto_read.specs.declared.reader.Stop.TheVariants.{Unexpected, Memory}
use Rattle.giotto_tasks.specs.Syntax.{Expression, Block}
use Rattle.giotto_text.specs.declared.tokens.Keyword.TheVariants as keywords
use Rattle.giotto_text.specs.declared.tokens.PlacedToken.{PlacedToken}
use Rattle.giotto_text.specs.declared.tokens.Symbol.TheVariants as symbols
use Rattle.giotto_text.specs.declared.tokens.Token.{Token}
use Rattle.giotto_text.specs.declared.tokens.Token.TheVariants as tokens
use Rattle.giotto_text.specs.Parsing.{Outcome, got, stopped, Parser, done, behind, ◌>>=◌, next_of, read_one, pick, if_next, up_to, many, this, is_symbol, is_keyword, is_name, is_unary, is_binary, unary_in, binary_in, read_operand_of, read_expression_of, expressions, read_expression, read_else_of, read_statement_of, read_block_of, blocks, read_block}
use Rattle.giotto_read.proofs.Shrinking as shrinking
use Rattle.giotto_read.proofs.Shrinking.{Shrinks, shrinks, one_progresses, up_to_shrinks, many_shrinks}

-- two parsers agree on lists of fewer than n tokens
pub record Agree {V : Type 0} (n : ℕ) (p q : Parser V) : Type 0 where
  pub same : (ts : List PlacedToken) → length ts < n → p ts ≡ q ts

itself : {V : Type 0} {n : ℕ} (p : Parser V) → Agree n p p
itself p = record { same = λ ts lt. refl }

agree_bind : {V W : Type 0} {n : ℕ} {p p' : Parser V} (q q' : V → Parser W) → Shrinks p → Agree n p p' → ((v : V) → Agree n (q v) (q' v)) → Agree n (p >>= q) (p' >>= q')
agree_bind {V = V} {W = W} {n = n} {p = p} {p' = p'} q q' h hp hq = record { same = λ ts lt. by ts lt (p ts) refl }
  where
    by : (ts : List PlacedToken) → length ts < n → (o : Outcome V) → p ts ≡ o → behind (p ts) q ≡ behind (p' ts) q'
    by ts lt (got v rest) e =
        let le = h.shorter ts v rest e in
        let less : length rest < n = omega (arith, le, lt) in
        ap (λ o. behind o q) e ∙ (hq v).same rest less ∙ sym (ap (λ o. behind o q') (sym (hp.same ts lt) ∙ e))
    by ts lt (stopped rest) e = ap (λ o. behind o q) e ∙ sym (ap (λ o. behind o q') (sym (hp.same ts lt) ∙ e))

-- fewer tokens are left after a token
agree_behind : {V W : Type 0} {n : ℕ} (f : Token → Option V) (q q' : V → Parser W) → ((v : V) → Agree n (q v) (q' v)) → Agree (suc n) (read_one f >>= q) (read_one f >>= q')
agree_behind {V = V} {W = W} {n = n} f q q' hq = record { same = λ ts lt. by ts lt (read_one f ts) refl }
  where
    by : (ts : List PlacedToken) → length ts < suc n → (o : Outcome V) → read_one f ts ≡ o → behind (read_one f ts) q ≡ behind (read_one f ts) q'
    by ts lt (got v rest) e =
        let fewer = (one_progresses f).shorter ts v rest e in
        let less : length rest < n = omega (arith, fewer, lt) in
        ap (λ o. behind o q) e ∙ (hq v).same rest less ∙ sym (ap (λ o. behind o q') e)
    by ts lt (stopped rest) e = ap (λ o. behind o q) e ∙ sym (ap (λ o. behind o q') e)

agree_if : {V : Type 0} {n : ℕ} (test : Token → Bool) {p p' q q' : Parser V} → Agree n p p' → Agree n q q' → Agree n (if_next test p q) (if_next test p' q')
agree_if {V = V} {n = n} test {p = p} {p' = p'} {q = q} {q' = q'} hp hq = record { same = λ ts lt. by ts lt (test (next_of ts)) }
  where
    by : (ts : List PlacedToken) → length ts < n → (b : Bool) → pick b p q ts ≡ pick b p' q' ts
    by ts lt true = hp.same ts lt
    by ts lt false = hq.same ts lt

agree_up_to : {V : Type 0} {n : ℕ} (bound : ℕ) (test : Token → Bool) {p p' : Parser V} → Shrinks p → Agree n p p' → Agree n (up_to bound test p) (up_to bound test p')
agree_up_to zero test h hp = itself stopped
agree_up_to (suc bound) test h hp =
    agree_if test (agree_bind _ _ h hp (λ v. agree_bind _ _ (up_to_shrinks bound test h) (agree_up_to bound test h hp) (λ vs. itself (done (v ∷ vs))))) (itself (done []))

agree_many : {V : Type 0} {n : ℕ} (test : Token → Bool) {p p' : Parser V} → Shrinks p → Agree n p p' → Agree n (many test p) (many test p')
agree_many test h hp = record { same = λ ts lt. (agree_up_to (suc (length ts)) test h hp).same ts lt }

-- expressions

operands_agree : {n : ℕ} {p q : Parser Expression} → Shrinks p → Agree n p q → Agree (suc n) (read_operand_of p) (read_operand_of q)
operands_agree h hp =
    agree_if is_name (itself _)
    (agree_if (is_symbol symbols.OpenParenthesis) (agree_behind (this (tokens.Symbol symbols.OpenParenthesis)) _ _ (λ _. agree_bind _ _ h hp (λ e. itself _))) (itself _))

expression_agrees : {n : ℕ} {p q : Parser Expression} → Shrinks p → Agree n p q → Agree (suc n) (read_expression_of p) (read_expression_of q)
expression_agrees h hp =
    let operands = operands_agree h hp in
    agree_if is_unary (agree_bind _ _ (shrinks (one_progresses unary_in)) (itself _) (λ o. agree_bind _ _ (shrinks (shrinking.operand h)) operands (λ a. itself _)))
    (agree_bind _ _ (shrinks (shrinking.operand h)) operands
    (λ a. agree_if is_binary (agree_bind _ _ (shrinks (one_progresses binary_in)) (itself _) (λ o. agree_bind _ _ (shrinks (shrinking.operand h)) operands (λ b. itself _))) (itself _)))

expressions_agree : (n m k : ℕ) → n ≤ m → n ≤ k → Agree n (expressions m) (expressions k)
expressions_agree zero m k lm lk = record { same = λ ts lt. absurd (omega arith) }
expressions_agree (suc n) zero k lm lk = absurd (omega arith)
expressions_agree (suc n) (suc m) zero lm lk = absurd (omega arith)
expressions_agree (suc n) (suc m) (suc k) lm lk = expression_agrees (shrinking.expressions_shrink m) (expressions_agree n m k (omega arith) (omega arith))

-- an expression is read with `read_expression` for the expressions in parentheses
pub expression_again : (ts : List PlacedToken) → read_expression ts ≡ read_expression_of read_expression ts
expression_again ts =
    let shorter : Agree (length ts) (expressions (length ts)) read_expression =
    record { same = λ us lt. (expressions_agree (suc (length us)) (length ts) (suc (length us)) (omega arith) (omega arith)).same us (omega arith) } in
    (expression_agrees (shrinking.expressions_shrink (length ts)) shorter).same ts (omega arith)

-- blocks

else_agrees : {n : ℕ} {p q : Parser Block} → Shrinks p → Agree n p q → Agree n (read_else_of p) (read_else_of q)
else_agrees h hp = agree_if (is_keyword keywords.Else) (agree_bind _ _ (shrinks (one_progresses (this (tokens.Keyword keywords.Else)))) (itself _) (λ _. agree_bind _ _ h hp (λ b. itself _))) (itself _)

statement_agrees : {n : ℕ} {p q : Parser Block} → Shrinks p → Agree n p q → Agree n (read_statement_of p) (read_statement_of q)
statement_agrees h hp =
    agree_if (is_keyword keywords.If)
    (agree_bind _ _ (shrinks (one_progresses (this (tokens.Keyword keywords.If)))) (itself _)
    (λ _. agree_bind _ _ (shrinks shrinking.expression) (itself _) (λ e. agree_bind _ _ h hp (λ a. agree_bind _ _ (shrinking.else_of h) (else_agrees h hp) (λ b. itself _)))))
    (agree_if (is_keyword keywords.Repeat)
    (agree_bind _ _ (shrinks (one_progresses (this (tokens.Keyword keywords.Repeat)))) (itself _) (λ _. agree_bind _ _ (shrinks shrinking.int) (itself _) (λ n. agree_bind _ _ h hp (λ b. itself _)))) (itself _))

block_agrees : {n : ℕ} {p q : Parser Block} → Shrinks p → Agree n p q → Agree (suc n) (read_block_of p) (read_block_of q)
block_agrees h hp =
    agree_behind (this (tokens.Symbol symbols.OpenBrace)) _ _
    (λ _. agree_bind _ _ (many_shrinks (λ t. not (is_symbol symbols.CloseBrace t)) (shrinks (shrinking.statement_of h)))
    (agree_many (λ t. not (is_symbol symbols.CloseBrace t)) (shrinks (shrinking.statement_of h)) (statement_agrees h hp)) (λ ss. itself _))

blocks_agree : (n m k : ℕ) → n ≤ m → n ≤ k → Agree n (blocks m) (blocks k)
blocks_agree zero m k lm lk = record { same = λ ts lt. absurd (omega arith) }
blocks_agree (suc n) zero k lm lk = absurd (omega arith)
blocks_agree (suc n) (suc m) zero lm lk = absurd (omega arith)
blocks_agree (suc n) (suc m) (suc k) lm lk = block_agrees (shrinking.blocks_shrink m) (blocks_agree n m k (omega arith) (omega arith))

-- a block is read with `read_block` for the blocks in its statements
pub block_again : (ts : List PlacedToken) → read_block ts ≡ read_block_of read_block ts
block_again ts =
    let shorter : Agree (length ts) (blocks (length ts)) read_block = record { same = λ us lt. (blocks_agree (suc (length us)) (length ts) (suc (length us)) (omega arith) (omega arith)).same us (omega arith) } in
    (block_agrees (shrinking.blocks_shrink (length ts)) shorter).same ts (omega arith)

-- if two parsers agree, a function that does what one says does what the other says
pub does_as : {T V : Type 0} (value_of : T → V) (p q : Parser V) (r u : Reader) (x : Result T Stop) → p (left r) ≡ q (left r) → Does value_of q r x u → Does value_of p r x u
does_as value_of p q r u (Ok x) same d = same ∙ d
does_as value_of p q r u (Err Unexpected) same d = same ∙ d
does_as value_of p q r u (Err Memory) same d = tt
