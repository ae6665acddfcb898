use Rattle.std.proofs.Common.{length, map, ◌+◌, ◌*◌, ◌<◌}
use Rattle.std.specs.Prelude.{not}
use Rattle.giotto_tasks.specs.Trees.{statement_of}
use Rattle.giotto_text.specs.declared.tokens.Symbol.TheVariants.{CloseBrace}
use Rattle.giotto_read.specs.inner.Doing.{left}
use Rattle.giotto_text.specs.Parsing.{is_symbol, read_block, read_statement_of}
use Rattle.giotto_read.proofs.DoingLists.{HasRead}
use Rattle.giotto_read.proofs.reader.Reader.+nest_blocks.Given as goal

abbrev pub decreases-block : goal.decreases-block
decreases-block l = 4 * length (left l.self.now)

abbrev pub decreases-otherwise : goal.decreases-otherwise
decreases-otherwise l = 4 * length (left l.self.now)

abbrev pub decreases-conditional : goal.decreases-conditional
decreases-conditional l = 4 * length (left l.self.now) + 1

abbrev pub decreases-repetition : goal.decreases-repetition
decreases-repetition l = 4 * length (left l.self.now) + 1

abbrev pub decreases-statement : goal.decreases-statement
decreases-statement l = 4 * length (left l.self.now) + 2

abbrev pub invariant-block-loop-self : goal.invariant-block-loop-self
invariant-block-loop-self l =
    HasRead (λ t. not (is_symbol CloseBrace t)) (read_statement_of read_block) l.initial.self (map statement_of l.block.items) l.self × (length (left l.self) < length (left l.fn.self))

abbrev pub decreases-block-loop-self : goal.decreases-block-loop-self
decreases-block-loop-self l = length (left l.self)
