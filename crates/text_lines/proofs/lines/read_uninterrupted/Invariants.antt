use Rattle.std.specs.Io.KnownBytes.{Keeps}
use Rattle.text_lines.proofs.lines.read_uninterrupted.Given as goal

abbrev pub invariant-loop-read : goal.invariant-loop-read
invariant-loop-read g l = Keeps (g.R.Read.remaining l.fn.reader) (g.R.Read.remaining l.reader)
