use Rattle.std.proofs.Common.{length, map}
use Rattle.giotto_text.specs.declared.tokens.Keyword.TheVariants as keyword
use Rattle.giotto_read.specs.inner.Doing.{left}
use Rattle.giotto_text.specs.Parsing.{is_keyword, read_output}
use Rattle.giotto_text.specs.ProgramTrees.{output_of}
use Rattle.giotto_read.proofs.DoingLists.{HasRead}
use Rattle.giotto_read.proofs.reader.Reader.outputs.Given as goal

abbrev pub invariant-loop-self : goal.invariant-loop-self
invariant-loop-self l = HasRead (is_keyword keyword.Output) read_output l.initial.self (map output_of l.outputs.items) l.self

abbrev pub decreases-loop-self : goal.decreases-loop-self
decreases-loop-self l = length (left l.self)
