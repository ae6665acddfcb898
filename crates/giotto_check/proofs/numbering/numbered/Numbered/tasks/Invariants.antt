use Rattle.std.proofs.Common.{◌≡◌, ◌+◌, ◌*◌, ◌++◌, ◌≤◌, length, map, take}
use Rattle.std.specs.List.{flat_map}
use Rattle.giotto_rules.specs.text.ProgramTrees.{task_of}
use Rattle.giotto_rules.specs.Declarations.{driver_ports}
use Rattle.giotto_rules.specs.Ports.{ports_of_task, shared_port}
use Rattle.giotto_check.specs.cited.Timetables.{AreEach, AreTaskSlots}
use Rattle.giotto_check.proofs.numbering.numbered.Numbered.tasks.Given as goal

-- the slot of the next input is the number of ports before it: at most 32 for each task
abbrev pub invariant-loop-task : goal.invariant-loop-task
invariant-loop-task l = record {
  each : AreEach (AreTaskSlots l.self) (map task_of (take l.task-index l.task-items)) l.tasks.items;
  before : l.inputs ≡ length (map shared_port (driver_ports l.self) ++ flat_map ports_of_task (map task_of (take l.task-index l.task-items)));
  bound : l.inputs ≤ length (driver_ports l.self) + 32 * l.task-index;
}
