use Rattle.std.proofs.Common.{◌≡◌, drop, map}
use Rattle.giotto_text.specs.ProgramTrees.{mode_of}
use Rattle.giotto_rules.specs.Rules.{updates_once}
use Rattle.giotto_rules.proofs.cited.ProgramParts.{with_modes}
use Rattle.giotto_rules.proofs.rules.updates.updates_once.Given as goal

abbrev pub invariant-loop-mode : goal.invariant-loop-mode
invariant-loop-mode l = updates_once (with_modes l.program (map mode_of (drop l.mode-index l.mode-items))) ≡ updates_once l.program
