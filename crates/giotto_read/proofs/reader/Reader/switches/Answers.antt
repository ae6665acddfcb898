use Rattle.std.proofs.Common.{map}
use Rattle.std.proofs.lemmas.List.{map-append}
use Rattle.giotto_text.specs.declared.tokens.Keyword.TheVariants as keyword
use Rattle.giotto_text.specs.declared.tokens.Token.TheVariants as token
use Rattle.giotto_read.specs.inner.Doing.{left}
use Rattle.giotto_text.specs.Parsing.{is_keyword, many, read_switch}
use Rattle.giotto_text.specs.ProgramTrees.{switch_of}
use Rattle.giotto_read.proofs.DoingLists.{none_yet, one_more, some_stopped, all_read, failed_as, next_yes, next_no}
use Rattle.giotto_read.proofs.Shrinking as shrinking
use Rattle.giotto_read.proofs.reader.Reader.switches.Goals as goal

pub loop-self-init : goal.loop-self-init
loop-self-init c = rw c.new-switches.ensures.items (none_yet (is_keyword keyword.ExitFreq) read_switch c.args.self.now)

pub returns-in_err-switch : goal.returns-in_err-switch
returns-in_err-switch c =
    failed_as (map switch_of) switch_of (many (is_keyword keyword.ExitFreq) read_switch) read_switch c.args.self.now c.loop-self.self c.switch.new.self c.in_err-switch.field-0.0 c.from_residual.result c.from_residual.ensures
    (some_stopped c.switch.new.self c.loop-self.invariant (next_yes c.loop-self.self (token.Keyword keyword.ExitFreq) c.loop-self-test.ensures.yes)) c.in_err-switch.ensures

pub loop-self-smaller : goal.loop-self-smaller
loop-self-smaller c = shrinking.switch.shorter (left c.loop-self.self) (switch_of c.in_ok-switch.switch) (left c.switch.new.self) c.in_ok-switch.ensures

pub loop-self-preserved : goal.loop-self-preserved
loop-self-preserved c =
    rw (c.in_ok-push.ensures.items, map-append)
    (one_more c.switch.new.self shrinking.switch c.loop-self.invariant (next_yes c.loop-self.self (token.Keyword keyword.ExitFreq) c.loop-self-test.ensures.yes) c.in_ok-switch.ensures)

pub returns : goal.returns
returns c = rw c.from_vec.ensures (all_read c.loop-self.invariant (next_no c.loop-self.self (token.Keyword keyword.ExitFreq) c.loop-self-test.ensures.no))
