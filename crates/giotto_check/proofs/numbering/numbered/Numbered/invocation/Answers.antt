use Rattle.std.proofs.Common.{length, arith, refl}
use Rattle.std.specs.List.{flat_map, list_all}
use Rattle.std.proofs.lemmas.Bool.{and_parts}
use Rattle.giotto_tasks.specs.Names.{is_among}
use Rattle.giotto_rules.specs.text.Depth.{is_shallow, has_shallow_guard}
use Rattle.giotto_rules.specs.text.ProgramTrees.{mode_of, invocation_of}
use Rattle.giotto_rules.specs.Declarations.{driver_ports, names_read}
use Rattle.giotto_rules.specs.Reads.{names_in_guard, names_in_invocation}
use Rattle.giotto_check.proofs.DriverReads.{readable_are_ports}
use Rattle.giotto_check.proofs.cited.EntryLemmas.{inputs_there, task_within}
use Rattle.giotto_check.proofs.TestLists.{all_in_parts}
use Rattle.giotto_check.proofs.numbering.numbered.Numbered.invocation.Goals as goal

pub bounds-tasks-task : goal.bounds-tasks-task
bounds-tasks-task c = task_within c.args.self.now c.args.invocation.now.task c.args.tasks.now c.task-task.result c.requires.tasks c.task-task.ensures

pub bounds-tasks-task-2 : goal.bounds-tasks-task-2
bounds-tasks-task-2 c = task_within c.args.self.now c.args.invocation.now.task c.args.tasks.now c.task-task.result c.requires.tasks c.task-task.ensures

pub offset_bounds-tasks-task : goal.offset_bounds-tasks-task
offset_bounds-tasks-task c =
    let lt = task_within c.args.self.now c.args.invocation.now.task c.args.tasks.now c.task-task.result c.requires.tasks c.task-task.ensures in
    omega (arith, lt)

pub guard-requires-clause-reads : goal.guard-requires-clause-reads
guard-requires-clause-reads c =
    let p = c.args.self.now in
    let i = invocation_of c.args.invocation.now in
    (all_in_parts (is_among (driver_ports p)) (names_in_guard i.guard) (flat_map names_read i.arguments) (readable_are_ports p (mode_of c.args.mode.now) c.requires.mode (names_in_invocation i) c.requires.invocation.reads)).0

pub arguments-requires-clause-reads : goal.arguments-requires-clause-reads
arguments-requires-clause-reads c =
    let p = c.args.self.now in
    let i = invocation_of c.args.invocation.now in
    rw c.as_slice.ensures
    ((all_in_parts (is_among (driver_ports p)) (names_in_guard i.guard) (flat_map names_read i.arguments) (readable_are_ports p (mode_of c.args.mode.now) c.requires.mode (names_in_invocation i) c.requires.invocation.reads)).1)

pub guard-requires-clause-shallow : goal.guard-requires-clause-shallow
guard-requires-clause-shallow c =
    let i = invocation_of c.args.invocation.now in
    (and_parts (has_shallow_guard i.guard) (list_all is_shallow i.arguments) c.requires.invocation.shallow).0

pub arguments-requires-clause-shallow : goal.arguments-requires-clause-shallow
arguments-requires-clause-shallow c =
    let i = invocation_of c.args.invocation.now in
    rw c.as_slice.ensures ((and_parts (has_shallow_guard i.guard) (list_all is_shallow i.arguments) c.requires.invocation.shallow).1)

pub returns : goal.returns
returns c =
    let i = invocation_of c.args.invocation.now in
    record {
      interval = refl;
      guard = c.in_ok-guard.ensures;
      task = c.task-task.ensures;
      inputs = inputs_there c.args.self.now i.task (length i.arguments) c.args.tasks.now c.task-task.result c.index-tasks-task.result c.requires.tasks c.task-task.ensures c.requires.invocation.task;
      arguments = rw c.as_slice.ensures at c.in_ok-arguments.ensures;
    }
