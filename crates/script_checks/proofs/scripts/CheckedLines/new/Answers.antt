use Rattle.std.proofs.Common.{refl}
use Rattle.script_checks.proofs.scripts.CheckedLines.new.Goals as goal

pub returns : goal.returns
returns c = λ config file. (refl, c.new.ensures.bytes, c.new-2.ensures config)
