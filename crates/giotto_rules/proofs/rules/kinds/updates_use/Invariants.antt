use Rattle.std.proofs.Common.{◌≡◌, drop, map}
use Rattle.std.specs.List.{list_all}
use Rattle.giotto_text.specs.ProgramTrees.{update_of}
use Rattle.giotto_rules.specs.Kinds.{update_uses}
use Rattle.giotto_rules.proofs.rules.kinds.updates_use.Given as goal

abbrev pub invariant-loop-update : goal.invariant-loop-update
invariant-loop-update l = list_all (update_uses l.kinds) (map update_of (drop l.update-index l.updates)) ≡ list_all (update_uses l.kinds) (map update_of l.updates)
