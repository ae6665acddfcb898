use Rattle.std.proofs.Common.{◌≡◌, ◌+◌, Some, length, map, drop}
use Rattle.std.specs.List.{flat_map, position_from}
use Rattle.giotto_rules.specs.text.ProgramTrees.{task_of}
use Rattle.giotto_rules.specs.Ports.{is_port, ports_of_task, slot_of}
use Rattle.giotto_check.specs.cited.Slots.{slots_of}
use Rattle.giotto_check.proofs.slots.own_slot.Given as goal

-- the slot is found among the ports of the remaining tasks
abbrev pub invariant-loop-declared : goal.invariant-loop-declared
invariant-loop-declared l =
    let rest = flat_map ports_of_task (map task_of (drop l.declared-index l.declared-items)) in
    record {
      slot : position_from (is_port (Some l.task) l.name) l.slot rest ≡ slot_of l.program (Some l.task) l.name;
      room : l.slot + length rest ≡ slots_of l.program;
    }
