use Rattle.std.proofs.Common.{map, take}
use Rattle.rig_model.specs.text.ProgramTrees.{actuator_of}
use Rattle.script_checks.specs.Grants.{fact_of_actuator}
use Rattle.script_checks.specs.inner.Facts.{Gains}
use Rattle.script_checks.proofs.facts.Facts.add_actuators.Given as goal

abbrev pub invariant-loop-actuator : goal.invariant-loop-actuator
invariant-loop-actuator l = Gains (map (λ s. fact_of_actuator l.tenant (actuator_of s)) (take l.actuator-index l.actuators)) l.initial.self l.self
