use Rattle.std.proofs.Common.{◌≡◌, true, false, Ok, Err, refl, ap, ◌∙◌, arith}
use Rattle.std.specs.Option.{is_some}
use Rattle.giotto_tasks.specs.Trees.{expression_of, primary_of}
use Rattle.giotto_text.specs.declared.tokens.Symbol.TheVariants.{OpenParenthesis, CloseParenthesis}
use Rattle.giotto_text.specs.declared.tokens.Token.{Token}
use Rattle.giotto_text.specs.declared.tokens.Token.TheVariants as token
use Rattle.giotto_read.specs.inner.Doing.{left}
use Rattle.giotto_text.specs.Parsing.{is_name, next_of, read_name, read_int, read_token, unary_in, binary_in, is_unary, is_binary, read_expression, read_operand_of}
use Rattle.giotto_read.proofs.DoingLists.{failed_as, does_same, took_this, took_other, took_one, took_none}
use Rattle.giotto_read.proofs.DoingSteps.{comes_next, is_no_name}
use Rattle.giotto_read.proofs.Nested.{expression_again}
use Rattle.giotto_read.proofs.NextToken.{at_some, at_none}
use Rattle.giotto_read.proofs.Shrinking as shrinking
use Rattle.giotto_read.proofs.Shrinking.{shrinks, one_progresses}
use Rattle.giotto_read.proofs.reader.Reader.+nest.Goals as goal

abbrev open_token : Token
open_token = token.Symbol OpenParenthesis

abbrev close_token : Token
close_token = token.Symbol CloseParenthesis

pub expression-returns-in_err-operand : goal.expression-returns-in_err-operand
expression-returns-in_err-operand t c =
    let ts = left c.args.self.now in
    let test : is_unary (next_of ts) ≡ true = ap is_some (took_one unary_in ts (left c.accept_unary.new.self) c.in-Some.operator c.in-Some.ensures) in
    failed_as expression_of primary_of read_expression (read_operand_of read_expression) c.args.self.now c.accept_unary.new.self c.operand.new.self c.in_err-operand.field-0.0 c.from_residual.result c.from_residual.ensures
    (λ e. expression_again ts ∙ rw (test, c.in-Some.ensures, e) refl) c.in_err-operand.ensures

pub expression-returns-in-Some : goal.expression-returns-in-Some
expression-returns-in-Some t c =
    let ts = left c.args.self.now in
    let test : is_unary (next_of ts) ≡ true = ap is_some (took_one unary_in ts (left c.accept_unary.new.self) c.in-Some.operator c.in-Some.ensures) in
    expression_again ts ∙ rw (test, c.in-Some.ensures, c.in_ok-operand.ensures) refl

pub expression-returns-in_err-left : goal.expression-returns-in_err-left
expression-returns-in_err-left t c =
    let ts = left c.args.self.now in
    let other = c.in_default.ensures in
    let test : is_unary (next_of ts) ≡ false = ap is_some (took_none unary_in ts ts refl other.1) in
    failed_as expression_of primary_of read_expression (read_operand_of read_expression) c.args.self.now c.args.self.now c.operand-2.new.self c.in_err-left.field-0.0 c.from_residual-in_err-left.result c.from_residual-in_err-left.ensures
    (λ e. expression_again ts ∙ rw (test, e) refl)
    (does_same primary_of (read_operand_of read_expression) c.args.self.now c.accept_unary.new.self c.operand-2.new.self (Err c.in_err-left.field-0.0) other.0 c.in_err-left.ensures)

pub expression-returns-in_default-accept_binary : goal.expression-returns-in_default-accept_binary
expression-returns-in_default-accept_binary t c =
    let ts = left c.args.self.now in
    let us = left c.operand-2.new.self in
    let other = c.in_default.ensures in
    let test : is_unary (next_of ts) ≡ false = ap is_some (took_none unary_in ts ts refl other.1) in
    let first = does_same primary_of (read_operand_of read_expression) c.args.self.now c.accept_unary.new.self c.operand-2.new.self (Ok c.in_ok-left.left) other.0 c.in_ok-left.ensures in
    let end = c.in_default-accept_binary.ensures in
    let no_operator : is_binary (next_of us) ≡ false = ap is_some (took_none binary_in us us refl end.1) in
    expression_again ts ∙ rw (c.expression_alone.ensures, test, first, no_operator, end.0) refl

pub expression-operand-requires-3 : goal.expression-operand-requires-3
expression-operand-requires-3 t c =
    let other = c.in_default.ensures in
    let first = does_same primary_of (read_operand_of read_expression) c.args.self.now c.accept_unary.new.self c.operand-2.new.self (Ok c.in_ok-left.left) other.0 c.in_ok-left.ensures in
    let a = (shrinking.operand (shrinks shrinking.expression)).shorter (left c.args.self.now) (primary_of c.in_ok-left.left) (left c.operand-2.new.self) first in
    let b = (one_progresses binary_in).shorter (left c.operand-2.new.self) c.in-Some-accept_binary.operator (left c.accept_binary.new.self) c.in-Some-accept_binary.ensures in
    (omega (arith, a, b, c.decreases), tt)

pub expression-returns-in_err-right : goal.expression-returns-in_err-right
expression-returns-in_err-right t c =
    let ts = left c.args.self.now in
    let us = left c.operand-2.new.self in
    let other = c.in_default.ensures in
    let test : is_unary (next_of ts) ≡ false = ap is_some (took_none unary_in ts ts refl other.1) in
    let first = does_same primary_of (read_operand_of read_expression) c.args.self.now c.accept_unary.new.self c.operand-2.new.self (Ok c.in_ok-left.left) other.0 c.in_ok-left.ensures in
    let next = c.in-Some-accept_binary.ensures in
    let operator : is_binary (next_of us) ≡ true = ap is_some (took_one binary_in us (left c.accept_binary.new.self) c.in-Some-accept_binary.operator next) in
    failed_as expression_of primary_of read_expression (read_operand_of read_expression) c.args.self.now c.accept_binary.new.self c.operand-3.new.self c.in_err-right.field-0.0 c.from_residual-in_err-right.result c.from_residual-in_err-right.ensures
    (λ e. expression_again ts ∙ rw (test, first, operator, next, e) refl) c.in_err-right.ensures

pub expression-returns : goal.expression-returns
expression-returns t c =
    let ts = left c.args.self.now in
    let us = left c.operand-2.new.self in
    let other = c.in_default.ensures in
    let test : is_unary (next_of ts) ≡ false = ap is_some (took_none unary_in ts ts refl other.1) in
    let first = does_same primary_of (read_operand_of read_expression) c.args.self.now c.accept_unary.new.self c.operand-2.new.self (Ok c.in_ok-left.left) other.0 c.in_ok-left.ensures in
    let next = c.in-Some-accept_binary.ensures in
    let operator : is_binary (next_of us) ≡ true = ap is_some (took_one binary_in us (left c.accept_binary.new.self) c.in-Some-accept_binary.operator next) in
    expression_again ts ∙ rw (test, first, operator, next, c.in_ok-right.ensures) refl

pub operand-returns-in_err-name : goal.operand-returns-in_err-name
operand-returns-in_err-name t c =
    let x = at_some c.next_name.result c.if-is_some.ensures c.next_name.ensures.some in
    let test : is_name (next_of (left c.args.self.now)) ≡ true = ap is_name (comes_next c.args.self.now (token.Name x.0.now) x.1) in
    failed_as primary_of (λ x. x) (read_operand_of read_expression) read_name c.args.self.now c.args.self.now c.name.new.self c.in_err-name.field-0.0 c.from_residual.result c.from_residual.ensures (λ e. rw (test, e) refl) c.in_err-name.ensures

pub operand-returns-in_err-inner : goal.operand-returns-in_err-inner
operand-returns-in_err-inner t c =
    let next = c.if-accept.ensures in
    let no_name = is_no_name c.args.self.now (at_none c.next_name.result c.if-is_some.ensures c.next_name.ensures.none) in
    let test = took_this (left c.args.self.now) (left c.accept.new.self) open_token next in
    failed_as primary_of expression_of (read_operand_of read_expression) read_expression c.args.self.now c.accept.new.self c.expression.new.self c.in_err-inner.field-0.0 c.from_residual-in_err-inner.result c.from_residual-in_err-inner.ensures
    (λ e. rw (no_name, test, next, e) refl) c.in_err-inner.ensures

pub operand-returns-in_err-symbol : goal.operand-returns-in_err-symbol
operand-returns-in_err-symbol t c =
    let next = c.if-accept.ensures in
    let no_name = is_no_name c.args.self.now (at_none c.next_name.result c.if-is_some.ensures c.next_name.ensures.none) in
    let test = took_this (left c.args.self.now) (left c.accept.new.self) open_token next in
    failed_as {U = Unit {0}} primary_of (λ _. tt) (read_operand_of read_expression) (read_token close_token) c.args.self.now c.expression.new.self c.symbol.new.self c.in_err-symbol.field-0.0 c.from_residual-in_err-symbol.result c.from_residual-in_err-symbol.ensures
    (λ e. rw (no_name, test, next, c.in_ok-inner.ensures, e) refl) c.in_err-symbol.ensures

pub operand-returns-in_err-number : goal.operand-returns-in_err-number
operand-returns-in_err-number t c =
    let other = c.if-accept.ensures in
    let no_name = is_no_name c.args.self.now (at_none c.next_name.result c.if-is_some.ensures c.next_name.ensures.none) in
    let test = took_other (left c.args.self.now) (left c.args.self.now) open_token refl other.1 in
    failed_as primary_of (λ x. x) (read_operand_of read_expression) read_int c.args.self.now c.args.self.now c.int.new.self c.in_err-number.field-0.0 c.from_residual-in_err-number.result c.from_residual-in_err-number.ensures
    (λ e. rw (no_name, test, e) refl) (does_same (λ x. x) read_int c.args.self.now c.accept.new.self c.int.new.self (Err c.in_err-number.field-0.0) other.0 c.in_err-number.ensures.read)
