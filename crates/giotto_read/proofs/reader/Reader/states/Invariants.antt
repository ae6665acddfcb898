use Rattle.std.proofs.Common.{◌≡◌, length}
use Rattle.std.specs.List.{zip}
use Rattle.giotto_read.specs.inner.Doing.{left}
use Rattle.giotto_text.specs.Parsing.{read_state}
use Rattle.giotto_read.proofs.DoingLists.{ListBegun}
use Rattle.giotto_read.proofs.reader.Reader.states.Given as goal

abbrev pub invariant-loop-self : goal.invariant-loop-self
invariant-loop-self l = ListBegun read_state l.fn.self (zip l.names.items l.initials.items) l.self × (length l.names.items ≡ length l.initials.items)

abbrev pub decreases-loop-self : goal.decreases-loop-self
decreases-loop-self l = length (left l.self)
