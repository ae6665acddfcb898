use Rattle.std.proofs.Common.{length, map}
use Rattle.giotto_text.specs.declared.tokens.Keyword.TheVariants as keyword
use Rattle.giotto_read.specs.inner.Doing.{left}
use Rattle.giotto_text.specs.Parsing.{is_keyword, read_actuator}
use Rattle.giotto_text.specs.ProgramTrees.{actuator_of}
use Rattle.giotto_read.proofs.DoingLists.{HasRead}
use Rattle.giotto_read.proofs.reader.Reader.actuators.Given as goal

abbrev pub invariant-loop-self : goal.invariant-loop-self
invariant-loop-self l = HasRead (is_keyword keyword.Actuator) read_actuator l.initial.self (map actuator_of l.actuators.items) l.self

abbrev pub decreases-loop-self : goal.decreases-loop-self
decreases-loop-self l = length (left l.self)
