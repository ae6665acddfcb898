use Rattle.giotto_tasks.specs.declared.names.Name.{Name}
use Rattle.giotto_tasks.specs.Names.{is_among}
use Rattle.giotto_tasks.specs.Syntax.{Expression}
use Rattle.giotto_rules.specs.text.Depth.{is_shallow}
use Rattle.giotto_rules.specs.text.ProgramTrees.{destination_of}
use Rattle.giotto_rules.specs.Declarations.{driver_ports, names_read, output_names}
use Rattle.giotto_check.specs.cited.Timetables.{IsDestination}
use Rattle.giotto_check.proofs.cited.EachLemmas.{each_next}
use Rattle.giotto_check.proofs.TestLists.{all_in_item, passes_item, test_at_item}
use Rattle.giotto_check.proofs.numbering.numbered.Numbered.destinations.Goals as goal

pub destination-requires-clause-output : goal.destination-requires-clause-output
destination-requires-clause-output c =
    passes_item (is_among (output_names c.args.self.now)) destination_of (λ (d : Name × Expression). d.0) c.args.destinations.now c.loop-destination.destination-index c.destination-item.result c.requires.outputs c.destination-item.is c.loop-destination-test.true

pub destination-requires-clause-reads : goal.destination-requires-clause-reads
destination-requires-clause-reads c =
    all_in_item (is_among (driver_ports c.args.self.now)) destination_of (λ (d : Name × Expression). names_read d.1) c.args.destinations.now c.loop-destination.destination-index c.destination-item.result c.requires.reads c.destination-item.is c.loop-destination-test.true

pub loop-destination-preserved : goal.loop-destination-preserved
loop-destination-preserved c =
    each_next (IsDestination c.args.self.now) destination_of c.args.destinations.now c.loop-destination.destination-index c.destination-item.result c.loop-destination.entries.items c.push.new.self.items c.in_ok-destination.field-0 c.loop-destination-test.true c.destination-item.is
    c.loop-destination.invariant c.in_ok-destination.ensures c.in_ok-push.ensures.items

pub destination-requires-clause-shallow : goal.destination-requires-clause-shallow
destination-requires-clause-shallow c =
    test_at_item (λ (d : Name × Expression). is_shallow d.1) destination_of c.args.destinations.now c.loop-destination.destination-index c.destination-item.result c.requires.shallow c.destination-item.is c.loop-destination-test.true
