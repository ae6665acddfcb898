use Rattle.std.specs.List.{flat_map, list_all}
use Rattle.std.proofs.lemmas.Bool.{and_parts}
use Rattle.giotto_tasks.specs.declared.names.Name.{Name}
use Rattle.giotto_tasks.specs.Names.{is_among}
use Rattle.giotto_tasks.specs.Syntax.{Expression}
use Rattle.giotto_rules.specs.text.Depth.{is_shallow, has_shallow_guard}
use Rattle.giotto_rules.specs.text.ProgramTrees.{mode_of, switch_of}
use Rattle.giotto_rules.specs.Declarations.{driver_ports, names_read}
use Rattle.giotto_rules.specs.Reads.{names_in_guard, names_in_switch}
use Rattle.giotto_check.proofs.DriverReads.{readable_are_ports}
use Rattle.giotto_check.proofs.cited.EntryLemmas.{destinations_are_outputs}
use Rattle.giotto_check.proofs.TestLists.{all_in_parts}
use Rattle.giotto_check.proofs.numbering.numbered.Numbered.exit.Goals as goal

pub guard-requires-clause-reads : goal.guard-requires-clause-reads
guard-requires-clause-reads c =
    let p = c.args.self.now in
    let s = switch_of c.args.switch.now in
    (all_in_parts (is_among (driver_ports p)) (names_in_guard s.guard) (flat_map (λ (d : Name × Expression). names_read d.1) s.destinations) (readable_are_ports p (mode_of c.args.mode.now) c.requires.mode (names_in_switch s) c.requires.switch.reads)).0

pub destinations-requires-clause-outputs : goal.destinations-requires-clause-outputs
destinations-requires-clause-outputs c =
    let s = switch_of c.args.switch.now in
    rw c.as_slice.ensures (destinations_are_outputs c.args.self.now s c.requires.program c.requires.switch.target)

pub destinations-requires-clause-reads : goal.destinations-requires-clause-reads
destinations-requires-clause-reads c =
    let p = c.args.self.now in
    let s = switch_of c.args.switch.now in
    rw c.as_slice.ensures
    ((all_in_parts (is_among (driver_ports p)) (names_in_guard s.guard) (flat_map (λ (d : Name × Expression). names_read d.1) s.destinations) (readable_are_ports p (mode_of c.args.mode.now) c.requires.mode (names_in_switch s) c.requires.switch.reads)).1)

pub guard-requires-clause-shallow : goal.guard-requires-clause-shallow
guard-requires-clause-shallow c =
    let s = switch_of c.args.switch.now in
    (and_parts (has_shallow_guard s.guard) (list_all (λ (d : Name × Expression). is_shallow d.1) s.destinations) c.requires.switch.shallow).0

pub destinations-requires-clause-shallow : goal.destinations-requires-clause-shallow
destinations-requires-clause-shallow c =
    let s = switch_of c.args.switch.now in
    rw c.as_slice.ensures ((and_parts (has_shallow_guard s.guard) (list_all (λ (d : Name × Expression). is_shallow d.1) s.destinations) c.requires.switch.shallow).1)
