use Rattle.std.proofs.Common.{◌≡◌, true, map, ap}
use Rattle.std.proofs.lemmas.List.{map-append}
use Rattle.giotto_tasks.specs.Trees.{expression_of}
use Rattle.giotto_text.specs.declared.tokens.Token.TheVariants as token
use Rattle.giotto_read.specs.inner.Doing.{left}
use Rattle.giotto_text.specs.Parsing.{is_name, many, next_of, read_assignment}
use Rattle.giotto_text.specs.cited.ProgramTrees.{assignment_of}
use Rattle.giotto_text.specs.ProgramTrees.{destination_of}
use Rattle.giotto_read.proofs.DoingLists.{none_yet, one_more, some_stopped, all_read, failed_as}
use Rattle.giotto_read.proofs.DoingSteps.{comes_next, is_no_name}
use Rattle.giotto_read.proofs.NextToken.{at_some, at_none}
use Rattle.giotto_read.proofs.Shrinking as shrinking
use Rattle.giotto_read.proofs.reader.Reader.assignments.Goals as goal

pub loop-self-init : goal.loop-self-init
loop-self-init c = rw c.new-destinations.ensures.items (none_yet is_name read_assignment c.args.self.now)

pub returns-in_err-output : goal.returns-in_err-output
returns-in_err-output c =
    let x = at_some c.next_name.result c.loop-self-test.ensures c.next_name.ensures.some in
    let test : is_name (next_of (left c.loop-self.self)) ≡ true = ap is_name (comes_next c.loop-self.self (token.Name x.0.now) x.1) in
    failed_as (map destination_of) assignment_of (many is_name read_assignment) read_assignment c.args.self.now c.loop-self.self c.assignment.new.self c.in_err-output.field-0.0 c.from_residual.result c.from_residual.ensures
    (some_stopped c.assignment.new.self c.loop-self.invariant test) c.in_err-output.ensures

pub loop-self-smaller : goal.loop-self-smaller
loop-self-smaller c = shrinking.assignment.shorter (left c.loop-self.self) (c.in_ok-output.output, expression_of c.in_ok-output.value) (left c.assignment.new.self) c.in_ok-output.ensures

pub loop-self-preserved : goal.loop-self-preserved
loop-self-preserved c =
    let x = at_some c.next_name.result c.loop-self-test.ensures c.next_name.ensures.some in
    let test : is_name (next_of (left c.loop-self.self)) ≡ true = ap is_name (comes_next c.loop-self.self (token.Name x.0.now) x.1) in
    rw (c.in_ok-push.ensures.items, map-append) (one_more c.assignment.new.self shrinking.assignment c.loop-self.invariant test c.in_ok-output.ensures)

pub returns : goal.returns
returns c = rw c.from_vec.ensures (all_read c.loop-self.invariant (is_no_name c.loop-self.self (at_none c.next_name.result c.loop-self-test.ensures c.next_name.ensures.none)))
