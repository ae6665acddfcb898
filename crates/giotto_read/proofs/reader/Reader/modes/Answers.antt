use Rattle.std.proofs.Common.{map}
use Rattle.std.proofs.lemmas.List.{map-append}
use Rattle.giotto_text.specs.declared.tokens.Keyword.TheVariants as keyword
use Rattle.giotto_text.specs.declared.tokens.Token.TheVariants as token
use Rattle.giotto_read.specs.inner.Doing.{left}
use Rattle.giotto_text.specs.Parsing.{is_keyword, many, read_mode}
use Rattle.giotto_text.specs.ProgramTrees.{mode_of}
use Rattle.giotto_read.proofs.DoingLists.{none_yet, one_more, some_stopped, all_read, failed_as, next_yes, next_no}
use Rattle.giotto_read.proofs.Shrinking as shrinking
use Rattle.giotto_read.proofs.reader.Reader.modes.Goals as goal

pub loop-self-init : goal.loop-self-init
loop-self-init c = rw c.new-modes.ensures.items (none_yet (is_keyword keyword.Mode) read_mode c.args.self.now)

pub returns-in_err-mode : goal.returns-in_err-mode
returns-in_err-mode c =
    failed_as (map mode_of) mode_of (many (is_keyword keyword.Mode) read_mode) read_mode c.args.self.now c.loop-self.self c.mode.new.self c.in_err-mode.field-0.0 c.from_residual.result c.from_residual.ensures
    (some_stopped c.mode.new.self c.loop-self.invariant (next_yes c.loop-self.self (token.Keyword keyword.Mode) c.loop-self-test.ensures.yes)) c.in_err-mode.ensures

pub loop-self-smaller : goal.loop-self-smaller
loop-self-smaller c = shrinking.mode.shorter (left c.loop-self.self) (mode_of c.in_ok-mode.mode) (left c.mode.new.self) c.in_ok-mode.ensures

pub loop-self-preserved : goal.loop-self-preserved
loop-self-preserved c =
    rw (c.in_ok-push.ensures.items, map-append)
    (one_more c.mode.new.self shrinking.mode c.loop-self.invariant (next_yes c.loop-self.self (token.Keyword keyword.Mode) c.loop-self-test.ensures.yes) c.in_ok-mode.ensures)

pub returns : goal.returns
returns c = rw c.from_vec.ensures (all_read c.loop-self.invariant (next_no c.loop-self.self (token.Keyword keyword.Mode) c.loop-self-test.ensures.no))
