use Rattle.std.proofs.Common.{length, map}
use Rattle.giotto_read.specs.inner.Doing.{left}
use Rattle.giotto_text.specs.Parsing.{is_name, read_assignment}
use Rattle.giotto_text.specs.ProgramTrees.{destination_of}
use Rattle.giotto_read.proofs.DoingLists.{HasRead}
use Rattle.giotto_read.proofs.reader.Reader.assignments.Given as goal

abbrev pub invariant-loop-self : goal.invariant-loop-self
invariant-loop-self l = HasRead is_name read_assignment l.initial.self (map destination_of l.destinations.items) l.self

abbrev pub decreases-loop-self : goal.decreases-loop-self
decreases-loop-self l = length (left l.self)
