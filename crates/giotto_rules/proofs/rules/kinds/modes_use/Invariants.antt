use Rattle.std.proofs.Common.{◌≡◌, drop, map}
use Rattle.std.specs.List.{list_all}
use Rattle.giotto_text.specs.ProgramTrees.{mode_of}
use Rattle.giotto_rules.specs.Kinds.{mode_uses}
use Rattle.giotto_rules.proofs.rules.kinds.modes_use.Given as goal

abbrev pub invariant-loop-mode : goal.invariant-loop-mode
invariant-loop-mode l = list_all (mode_uses l.kinds) (map mode_of (drop l.mode-index l.modes)) ≡ list_all (mode_uses l.kinds) (map mode_of l.modes)
