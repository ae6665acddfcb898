use Rattle.std.proofs.Common.{map}
use Rattle.std.proofs.lemmas.List.{map-append}
use Rattle.giotto_text.specs.declared.tokens.Keyword.TheVariants as keyword
use Rattle.giotto_text.specs.declared.tokens.Token.TheVariants as token
use Rattle.giotto_read.specs.inner.Doing.{left}
use Rattle.giotto_text.specs.Parsing.{is_keyword, many, read_task}
use Rattle.giotto_text.specs.ProgramTrees.{task_of}
use Rattle.giotto_read.proofs.DoingLists.{none_yet, one_more, some_stopped, all_read, failed_as, next_yes, next_no}
use Rattle.giotto_read.proofs.Shrinking as shrinking
use Rattle.giotto_read.proofs.reader.Reader.tasks.Goals as goal

pub loop-self-init : goal.loop-self-init
loop-self-init c = rw c.new-tasks.ensures.items (none_yet (is_keyword keyword.Task) read_task c.args.self.now)

pub returns-in_err-task : goal.returns-in_err-task
returns-in_err-task c =
    failed_as (map task_of) task_of (many (is_keyword keyword.Task) read_task) read_task c.args.self.now c.loop-self.self c.task.new.self c.in_err-task.field-0.0 c.from_residual.result c.from_residual.ensures
    (some_stopped c.task.new.self c.loop-self.invariant (next_yes c.loop-self.self (token.Keyword keyword.Task) c.loop-self-test.ensures.yes)) c.in_err-task.ensures

pub loop-self-smaller : goal.loop-self-smaller
loop-self-smaller c = shrinking.task.shorter (left c.loop-self.self) (task_of c.in_ok-task.task) (left c.task.new.self) c.in_ok-task.ensures

pub loop-self-preserved : goal.loop-self-preserved
loop-self-preserved c =
    rw (c.in_ok-push.ensures.items, map-append)
    (one_more c.task.new.self shrinking.task c.loop-self.invariant (next_yes c.loop-self.self (token.Keyword keyword.Task) c.loop-self-test.ensures.yes) c.in_ok-task.ensures)

pub returns : goal.returns
returns c = rw c.from_vec.ensures (all_read c.loop-self.invariant (next_no c.loop-self.self (token.Keyword keyword.Task) c.loop-self-test.ensures.no))
