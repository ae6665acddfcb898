use Rattle.std.proofs.Common.{length}
use Rattle.giotto_read.specs.inner.Doing.{left}
use Rattle.giotto_text.specs.Parsing.{read_name}
use Rattle.giotto_read.proofs.DoingLists.{ListBegun}
use Rattle.giotto_read.proofs.reader.Reader.names.Given as goal

abbrev pub invariant-loop-self : goal.invariant-loop-self
invariant-loop-self l = ListBegun read_name l.fn.self (l.names.items) l.self

abbrev pub decreases-loop-self : goal.decreases-loop-self
decreases-loop-self l = length (left l.self)
