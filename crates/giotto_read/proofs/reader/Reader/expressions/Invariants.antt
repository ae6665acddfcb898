use Rattle.std.proofs.Common.{length, map}
use Rattle.giotto_tasks.specs.Trees.{expression_of}
use Rattle.giotto_read.specs.inner.Doing.{left}
use Rattle.giotto_text.specs.Parsing.{read_expression}
use Rattle.giotto_read.proofs.DoingLists.{ListBegun}
use Rattle.giotto_read.proofs.reader.Reader.expressions.Given as goal

abbrev pub invariant-loop-self : goal.invariant-loop-self
invariant-loop-self l = ListBegun read_expression l.fn.self (map expression_of l.expressions.items) l.self

abbrev pub decreases-loop-self : goal.decreases-loop-self
decreases-loop-self l = length (left l.self)
