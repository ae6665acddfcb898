use Rattle.std.proofs.Common.{map}
use Rattle.std.proofs.lemmas.List.{map-append}
use Rattle.giotto_text.specs.declared.tokens.Keyword.TheVariants as keyword
use Rattle.giotto_text.specs.declared.tokens.Token.TheVariants as token
use Rattle.giotto_read.specs.inner.Doing.{left}
use Rattle.giotto_text.specs.Parsing.{is_keyword, many, read_invocation}
use Rattle.giotto_text.specs.ProgramTrees.{invocation_of}
use Rattle.giotto_read.proofs.DoingLists.{none_yet, one_more, some_stopped, all_read, failed_as, next_yes, next_no}
use Rattle.giotto_read.proofs.Shrinking as shrinking
use Rattle.giotto_read.proofs.reader.Reader.invocations.Goals as goal

pub loop-self-init : goal.loop-self-init
loop-self-init c = rw c.new-invocations.ensures.items (none_yet (is_keyword keyword.TaskFreq) read_invocation c.args.self.now)

pub returns-in_err-invocation : goal.returns-in_err-invocation
returns-in_err-invocation c =
    failed_as (map invocation_of) invocation_of (many (is_keyword keyword.TaskFreq) read_invocation) read_invocation c.args.self.now c.loop-self.self c.invocation.new.self c.in_err-invocation.field-0.0 c.from_residual.result c.from_residual.ensures
    (some_stopped c.invocation.new.self c.loop-self.invariant (next_yes c.loop-self.self (token.Keyword keyword.TaskFreq) c.loop-self-test.ensures.yes)) c.in_err-invocation.ensures

pub loop-self-smaller : goal.loop-self-smaller
loop-self-smaller c = shrinking.invocation.shorter (left c.loop-self.self) (invocation_of c.in_ok-invocation.invocation) (left c.invocation.new.self) c.in_ok-invocation.ensures

pub loop-self-preserved : goal.loop-self-preserved
loop-self-preserved c =
    rw (c.in_ok-push.ensures.items, map-append)
    (one_more c.invocation.new.self shrinking.invocation c.loop-self.invariant (next_yes c.loop-self.self (token.Keyword keyword.TaskFreq) c.loop-self-test.ensures.yes) c.in_ok-invocation.ensures)

pub returns : goal.returns
returns c = rw c.from_vec.ensures (all_read c.loop-self.invariant (next_no c.loop-self.self (token.Keyword keyword.TaskFreq) c.loop-self-test.ensures.no))
