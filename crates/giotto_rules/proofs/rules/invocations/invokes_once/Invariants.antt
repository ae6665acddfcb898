use Rattle.std.proofs.Common.{◌≡◌, drop, map}
use Rattle.giotto_text.specs.ProgramTrees.{mode_of}
use Rattle.giotto_rules.specs.Rules.{invokes_once}
use Rattle.giotto_rules.proofs.cited.ProgramParts.{with_modes}
use Rattle.giotto_rules.proofs.rules.invocations.invokes_once.Given as goal

abbrev pub invariant-loop-mode : goal.invariant-loop-mode
invariant-loop-mode l = invokes_once (with_modes l.program (map mode_of (drop l.mode-index l.mode-items))) ≡ invokes_once l.program
