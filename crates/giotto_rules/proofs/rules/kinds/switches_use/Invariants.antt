use Rattle.std.proofs.Common.{◌≡◌, drop, map}
use Rattle.std.specs.List.{list_all}
use Rattle.giotto_text.specs.ProgramTrees.{switch_of}
use Rattle.giotto_rules.specs.Kinds.{switch_uses}
use Rattle.giotto_rules.proofs.rules.kinds.switches_use.Given as goal

abbrev pub invariant-loop-switch : goal.invariant-loop-switch
invariant-loop-switch l = list_all (switch_uses l.kinds) (map switch_of (drop l.switch-index l.switches)) ≡ list_all (switch_uses l.kinds) (map switch_of l.switches)
