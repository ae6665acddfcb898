use Rattle.std.proofs.Common.{◌≡◌, true, false, Ok, Err, Vec, Global, map, refl, ap, ◌∙◌, arith}
use Rattle.std.specs.Prelude.{not}
use Rattle.std.proofs.lemmas.List.{map-append}
use Rattle.giotto_tasks.specs.Trees.{block_of, expression_of, in_order, statement_of}
use Rattle.giotto_tasks.specs.declared.bodies.Stmt.TheBlock.{the_data}
use Rattle.giotto_read.specs.inner.Doing.{left}
use Rattle.giotto_text.specs.Parsing.{many, next_of, same_token, this, read_assignment, read_block, read_branch_of, read_repetition_of, read_statement_of}
use Rattle.giotto_text.specs.cited.ProgramTrees.{assignment_of}
use Rattle.giotto_read.proofs.DoingLists.{none_yet, one_more, some_stopped, all_read, failed_as, does_same, next_yes, next_no, took_this, took_other, open_brace, close_brace, braces_stopped, braces_read}
use Rattle.giotto_read.proofs.DoingStatements.{if_token, repeat_token, reads_branch, reads_repetition, assignment_stopped, else_read}
use Rattle.giotto_read.proofs.Nested.{block_again, does_as}
use Rattle.giotto_read.proofs.Shrinking as shrinking
use Rattle.giotto_read.proofs.Shrinking.{Progresses, shrinks, one_progresses}
use Rattle.giotto_read.proofs.reader.Reader.+nest_blocks.Goals as goal

forward : Progresses (read_statement_of read_block)
forward = shrinking.statement_of (shrinks shrinking.block)

pub block-loop-self-init : goal.block-loop-self-init
block-loop-self-init t c = (
  rw c.new-block.ensures.items (none_yet (λ t. not (same_token close_brace t)) (read_statement_of read_block) c.symbol.new.self),
  (one_progresses (this open_brace)).shorter (left c.args.self.now) tt (left c.symbol.new.self) c.in_ok-symbol.ensures,
)

pub block-returns-in_err-statement : goal.block-returns-in_err-statement
block-returns-in_err-statement t c =
    let s = c.loop-self.self in
    let other = c.loop-self-test.ensures in
    let test : not (same_token close_brace (next_of (left s))) ≡ true = ap not (took_other (left s) (left s) close_brace refl other.1) in
    failed_as (λ (b : Vec the_data Global). block_of b.items) statement_of read_block (read_statement_of read_block) c.args.self.now s c.statement.new.self c.in_err-statement.field-0.0 c.from_residual-in_err-statement.result c.from_residual-in_err-statement.ensures
    (λ e. block_again (left c.args.self.now)
    ∙ braces_stopped in_order (many (λ t. not (same_token close_brace t)) (read_statement_of read_block)) c.args.self.now c.symbol.new.self c.statement.new.self c.in_ok-symbol.ensures
    (some_stopped c.statement.new.self c.loop-self.invariant.0 test e))
    (does_same statement_of (read_statement_of read_block) s c.accept.new.self c.statement.new.self (Err c.in_err-statement.field-0.0) other.0 c.in_err-statement.ensures)

pub block-loop-self-smaller : goal.block-loop-self-smaller
block-loop-self-smaller t c =
    let s = c.loop-self.self in
    let one = does_same statement_of (read_statement_of read_block) s c.accept.new.self c.statement.new.self (Ok c.in_ok-statement.statement) c.loop-self-test.ensures.0 c.in_ok-statement.ensures in
    forward.shorter (left s) (statement_of c.in_ok-statement.statement) (left c.statement.new.self) one

pub block-loop-self-preserved : goal.block-loop-self-preserved
block-loop-self-preserved t c =
    let s = c.loop-self.self in
    let other = c.loop-self-test.ensures in
    let test : not (same_token close_brace (next_of (left s))) ≡ true = ap not (took_other (left s) (left s) close_brace refl other.1) in
    let one = does_same statement_of (read_statement_of read_block) s c.accept.new.self c.statement.new.self (Ok c.in_ok-statement.statement) other.0 c.in_ok-statement.ensures in
    let less = forward.shorter (left s) (statement_of c.in_ok-statement.statement) (left c.statement.new.self) one in
    (rw (c.in_ok-push.ensures.items, map-append) (one_more c.statement.new.self forward c.loop-self.invariant.0 test one), omega (arith, less, c.loop-self.invariant.1))

pub block-returns : goal.block-returns
block-returns t c =
    let s = c.loop-self.self in
    let closed = c.loop-self-test.ensures in
    let test : not (same_token close_brace (next_of (left s))) ≡ false = ap not (took_this (left s) (left c.accept.new.self) close_brace closed) in
    block_again (left c.args.self.now)
    ∙ braces_read in_order (many (λ t. not (same_token close_brace t)) (read_statement_of read_block)) c.args.self.now c.symbol.new.self s c.accept.new.self (map statement_of c.loop-self.block.items) c.in_ok-symbol.ensures
    (all_read c.loop-self.invariant.0 test) closed

pub conditional-block-requires : goal.conditional-block-requires
conditional-block-requires t c =
    let a = (one_progresses (this if_token)).shorter (left c.args.self.now) tt (left c.keyword.new.self) c.in_ok-keyword.ensures in
    let b = shrinking.expression.shorter (left c.keyword.new.self) (expression_of c.in_ok-condition.condition) (left c.expression.new.self) c.in_ok-condition.ensures in
    (omega (arith, a, b, c.decreases), tt)

pub conditional-otherwise-requires : goal.conditional-otherwise-requires
conditional-otherwise-requires t c =
    let a = (one_progresses (this if_token)).shorter (left c.args.self.now) tt (left c.keyword.new.self) c.in_ok-keyword.ensures in
    let b = shrinking.expression.shorter (left c.keyword.new.self) (expression_of c.in_ok-condition.condition) (left c.expression.new.self) c.in_ok-condition.ensures in
    let d = shrinking.block.shorter (left c.expression.new.self) (block_of c.in_ok-block.block.items) (left c.block.new.self) c.in_ok-block.ensures in
    (omega (arith, a, b, d, c.decreases), tt)

pub otherwise-returns : goal.otherwise-returns
otherwise-returns t c = else_read read_block c.args.self.now c.accept_keyword.new.self c.block.new.self (block_of c.in_ok-block.block.items) c.if-not-accept_keyword.ensures c.in_ok-block.ensures

pub statement-returns-then-next_is_keyword : goal.statement-returns-then-next_is_keyword
statement-returns-then-next_is_keyword t c =
    does_as statement_of (read_statement_of read_block) (read_branch_of read_block) c.args.self.now c.conditional.new.self c.conditional.result
    (reads_branch read_block (left c.args.self.now) (next_yes c.args.self.now if_token c.if-next_is_keyword.ensures.yes)) c.conditional.ensures

pub statement-returns-then-next_is_keyword-2 : goal.statement-returns-then-next_is_keyword-2
statement-returns-then-next_is_keyword-2 t c =
    does_as statement_of (read_statement_of read_block) (read_repetition_of read_block) c.args.self.now c.repetition.new.self c.repetition.result
    (reads_repetition read_block (left c.args.self.now) (next_no c.args.self.now if_token c.if-next_is_keyword.ensures.no) (next_yes c.args.self.now repeat_token c.if-next_is_keyword-2.ensures.yes)) c.repetition.ensures

pub statement-returns-in_err-name : goal.statement-returns-in_err-name
statement-returns-in_err-name t c =
    failed_as statement_of assignment_of (read_statement_of read_block) read_assignment c.args.self.now c.args.self.now c.assignment.new.self c.in_err-name.field-0.0 c.from_residual.result c.from_residual.ensures
    (assignment_stopped read_block c.args.self.now c.assignment.new.self (next_no c.args.self.now if_token c.if-next_is_keyword.ensures.no) (next_no c.args.self.now repeat_token c.if-next_is_keyword-2.ensures.no)) c.in_err-name.ensures
