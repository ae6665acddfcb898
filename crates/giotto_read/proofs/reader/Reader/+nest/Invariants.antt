use Rattle.std.proofs.Common.{length, ◌+◌, ◌*◌}
use Rattle.giotto_read.specs.inner.Doing.{left}
use Rattle.giotto_read.proofs.reader.Reader.+nest.Given as goal

abbrev pub decreases-expression : goal.decreases-expression
decreases-expression l = 2 * length (left l.self.now) + 1

abbrev pub decreases-operand : goal.decreases-operand
decreases-operand l = 2 * length (left l.self.now)
