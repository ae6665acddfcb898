use Rattle.std.proofs.Common.{◌≡◌, ◌+◌, ◌++◌, None, length, map, drop}
use Rattle.std.specs.List.{flat_map, position_from}
use Rattle.giotto_rules.specs.text.ProgramTrees.{sensor_of, actuator_of, output_of}
use Rattle.giotto_rules.specs.Declarations.{actuator_names, output_names}
use Rattle.giotto_rules.specs.Ports.{is_port, ports_of_task, shared_port, slot_of}
use Rattle.giotto_check.specs.cited.Slots.{slots_of}
use Rattle.giotto_check.proofs.slots.shared_slot.Given as goal

-- the slot is found among the remaining ports
abbrev pub invariant-loop-sensor : goal.invariant-loop-sensor
invariant-loop-sensor l =
    let rest = map (λ s. s.name) (map sensor_of (drop l.sensor-index l.sensor-items)) ++ (actuator_names l.program ++ output_names l.program) in
    record {
      slot : position_from (is_port None l.name) l.slot (map shared_port rest ++ flat_map ports_of_task l.program.tasks) ≡ slot_of l.program None l.name;
      room : l.slot + length (map shared_port rest ++ flat_map ports_of_task l.program.tasks) ≡ slots_of l.program;
    }

abbrev pub invariant-loop-actuator : goal.invariant-loop-actuator
invariant-loop-actuator l =
    let rest = map (λ s. s.name) (map actuator_of (drop l.actuator-index l.actuator-items)) ++ output_names l.program in
    record {
      slot : position_from (is_port None l.name) l.slot (map shared_port rest ++ flat_map ports_of_task l.program.tasks) ≡ slot_of l.program None l.name;
      room : l.slot + length (map shared_port rest ++ flat_map ports_of_task l.program.tasks) ≡ slots_of l.program;
    }

abbrev pub invariant-loop-output : goal.invariant-loop-output
invariant-loop-output l =
    let rest = map (λ s. s.name) (map output_of (drop l.output-index l.output-items)) in
    record {
      slot : position_from (is_port None l.name) l.slot (map shared_port rest ++ flat_map ports_of_task l.program.tasks) ≡ slot_of l.program None l.name;
      room : l.slot + length (map shared_port rest ++ flat_map ports_of_task l.program.tasks) ≡ slots_of l.program;
    }
