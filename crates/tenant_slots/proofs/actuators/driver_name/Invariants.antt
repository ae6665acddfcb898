use Rattle.std.proofs.Common.{◌≡◌, find, drop}
use Rattle.rig_model.specs.declared.text.programs.Actuator.{Actuator}
use Rattle.rig_model.specs.LineValues.{drives}
use Rattle.tenant_slots.proofs.actuators.driver_name.Given as goal

abbrev pub invariant-loop-actuator : goal.invariant-loop-actuator
invariant-loop-actuator l =
    let driving = λ (a : Actuator). drives l.line a.line in
    find driving l.actuators ≡ find driving (drop l.actuator-index l.actuators)
