use Rattle.std.proofs.Common.{◌≡◌, drop, map}
use Rattle.std.specs.List.{list_all}
use Rattle.giotto_text.specs.Program.{ActuatorUpdate}
use Rattle.giotto_text.specs.ProgramTrees.{update_of}
use Rattle.giotto_rules.specs.Names.{are_among}
use Rattle.giotto_rules.specs.Reads.{names_in_update}
use Rattle.giotto_rules.proofs.rules.drivers.updates_read.Given as goal

abbrev pub invariant-loop-update : goal.invariant-loop-update
invariant-loop-update l =
    list_all (λ (u : ActuatorUpdate). are_among l.ports (names_in_update u)) (map update_of (drop l.update-index l.updates))
    ≡ list_all (λ (u : ActuatorUpdate). are_among l.ports (names_in_update u)) (map update_of l.updates)
