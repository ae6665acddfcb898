use Rattle.std.proofs.Common.{◌≡◌, map, take}
use Rattle.giotto_text.specs.Program.{ActuatorUpdate}
use Rattle.giotto_text.specs.ProgramTrees.{update_of}
use Rattle.giotto_rules.proofs.declarations.updated_actuators.Given as goal

abbrev pub invariant-loop-update : goal.invariant-loop-update
invariant-loop-update l = l.names.items ≡ map (λ (u : ActuatorUpdate). u.actuator) (map update_of (take l.update-index l.update-items))
