use Rattle.std.proofs.Common.{arith}
use Rattle.std.proofs.lemmas.List.{map-append}
use Rattle.giotto_tasks.specs.Trees.{expression_of}
use Rattle.giotto_read.specs.inner.Doing.{left}
use Rattle.giotto_text.specs.Parsing.{read_expression, this}
use Rattle.giotto_read.proofs.DoingLists.{comma, next_thing, thing_progresses, list_begun, list_more}
use Rattle.giotto_read.proofs.Shrinking.{Progresses, shrinks, one_progresses, expression}
use Rattle.giotto_read.proofs.reader.Reader.expressions.Goals as goal

forward : Progresses (next_thing read_expression)
forward = thing_progresses (shrinks expression)

pub loop-self-preserved : goal.loop-self-preserved
loop-self-preserved c = rw (c.in_ok-push-2.ensures.items, map-append) (list_more read_expression _ c.loop-self.self c.accept.new.self c.expression-in-loop-self.new.self forward c.loop-self.invariant c.loop-self-test.ensures c.in_ok-expression-2.ensures)

pub loop-self-init : goal.loop-self-init
loop-self-init c = rw (c.in_ok-push.ensures.items, c.new-expressions.ensures.items) (list_begun read_expression c.args.self.now c.expression.new.self (expression_of c.in_ok-expression.expression) c.in_ok-expression.ensures)

pub loop-self-smaller : goal.loop-self-smaller
loop-self-smaller c =
    let a = (one_progresses (this comma)).shorter (left c.loop-self.self) tt (left c.accept.new.self) c.loop-self-test.ensures in
    let b = expression.shorter (left c.accept.new.self) (expression_of c.in_ok-expression-2.expression) (left c.expression-in-loop-self.new.self) c.in_ok-expression-2.ensures in
    omega (arith, a, b)
