use Rattle.giotto_tasks.specs.Names.{is_among}
use Rattle.giotto_tasks.specs.Trees.{expression_of}
use Rattle.std.proofs.lemmas.Bool.{and_parts}
use Rattle.giotto_rules.specs.text.Depth.{is_shallow, has_shallow_guard}
use Rattle.giotto_rules.specs.text.ProgramTrees.{mode_of, guard_of}
use Rattle.giotto_rules.specs.Declarations.{names_read}
use Rattle.giotto_rules.specs.Reads.{names_in_guard, names_in_update}
use Rattle.giotto_rules.specs.text.ProgramTrees.{update_of}
use Rattle.giotto_check.proofs.DriverReads.{actuator_is_port, mode_ports_are_ports}
use Rattle.giotto_check.proofs.TestLists.{all_in_parts}
use Rattle.giotto_rules.specs.Declarations.{driver_ports}
use Rattle.giotto_check.proofs.numbering.numbered.Numbered.update.Goals as goal

pub guard-requires-clause-reads : goal.guard-requires-clause-reads
guard-requires-clause-reads c =
    let p = c.args.self.now in
    let u = c.args.update.now in
    (all_in_parts (is_among (driver_ports p)) (names_in_guard (guard_of u.guard)) (names_read (expression_of u.value)) (mode_ports_are_ports p (mode_of c.args.mode.now) c.requires.mode (names_in_update (update_of u)) c.requires.update.reads)).0

pub slot-requires : goal.slot-requires
slot-requires c = actuator_is_port c.args.self.now c.args.update.now.actuator c.requires.update.actuator

pub expression-requires-clause-reads : goal.expression-requires-clause-reads
expression-requires-clause-reads c =
    let p = c.args.self.now in
    let u = c.args.update.now in
    (all_in_parts (is_among (driver_ports p)) (names_in_guard (guard_of u.guard)) (names_read (expression_of u.value)) (mode_ports_are_ports p (mode_of c.args.mode.now) c.requires.mode (names_in_update (update_of u)) c.requires.update.reads)).1

pub guard-requires-clause-shallow : goal.guard-requires-clause-shallow
guard-requires-clause-shallow c =
    let u = c.args.update.now in
    (and_parts (has_shallow_guard (guard_of u.guard)) (is_shallow (expression_of u.value)) c.requires.update.shallow).0

pub expression-requires-clause-shallow : goal.expression-requires-clause-shallow
expression-requires-clause-shallow c =
    let u = c.args.update.now in
    (and_parts (has_shallow_guard (guard_of u.guard)) (is_shallow (expression_of u.value)) c.requires.update.shallow).1
