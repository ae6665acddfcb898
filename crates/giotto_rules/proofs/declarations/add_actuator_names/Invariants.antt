use Rattle.std.proofs.Common.{◌≡◌, ◌++◌, map, take}
use Rattle.giotto_text.specs.Program.{ActuatorDeclaration}
use Rattle.giotto_text.specs.ProgramTrees.{actuator_of}
use Rattle.giotto_rules.proofs.declarations.add_actuator_names.Given as goal

abbrev pub invariant-loop-actuator : goal.invariant-loop-actuator
invariant-loop-actuator l = l.names.items ≡ l.initial.names.items ++ map (λ (a : ActuatorDeclaration). a.name) (map actuator_of (take l.actuator-index l.actuator-items))
