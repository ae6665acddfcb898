use Rattle.std.proofs.Common.{◌≡◌, ◌≤◌, ◌+◌, map, take, drop, length}
use Rattle.std.proofs.Math.Seq.{paste}
use Rattle.std.specs.List.{flat_map}
use Rattle.rig_model.specs.declared.text.programs.Sensor.{Sensor}
use Rattle.rig_model.specs.declared.text.programs.Actuator.{Actuator}
use Rattle.rig_model.specs.declared.text.programs.Output.{Output}
use Rattle.giotto_check.specs.cited.Slots.{with_range}
use Rattle.tenant_slots.proofs.InitialValues.{values_of_task}
use Rattle.tenant_slots.proofs.beginning.reset_ports.Given as goal

abbrev pub invariant-loop-sensor : goal.invariant-loop-sensor
invariant-loop-sensor l = record {
  room : l.initial.slot + length l.sensor-items ≤ length l.initial.values;
  slot : l.slot ≡ l.initial.slot + l.sensor-index;
  values : l.values ≡ paste l.initial.values l.initial.slot (map (λ (s : Sensor). s.initial) l.sensor-items) l.sensor-index;
}

abbrev pub invariant-loop-actuator : goal.invariant-loop-actuator
invariant-loop-actuator l = record {
  room : l.initial.slot + length l.actuator-items ≤ length l.initial.values;
  slot : l.slot ≡ l.initial.slot + l.actuator-index;
  values : l.values ≡ paste l.initial.values l.initial.slot (map (λ (a : Actuator). a.initial) l.actuator-items) l.actuator-index;
}

abbrev pub invariant-loop-output : goal.invariant-loop-output
invariant-loop-output l = record {
  room : l.initial.slot + length l.output-items ≤ length l.initial.values;
  slot : l.slot ≡ l.initial.slot + l.output-index;
  values : l.values ≡ paste l.initial.values l.initial.slot (map (λ (o : Output). o.initial) l.output-items) l.output-index;
}

abbrev pub invariant-loop-task : goal.invariant-loop-task
invariant-loop-task l =
    let done = flat_map values_of_task (take l.task-index l.task-items) in record {
      room : l.slot + length (flat_map values_of_task (drop l.task-index l.task-items)) ≤ length l.values;
      slot : l.slot ≡ l.initial.slot + length done;
      values : l.values ≡ with_range l.initial.values l.initial.slot done;
    }
