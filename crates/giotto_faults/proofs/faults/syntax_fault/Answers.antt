use Rattle.giotto_faults.proofs.FaultPlaces.{fault_cuts}
use Rattle.giotto_faults.proofs.faults.syntax_fault.Goals as goal

pub range-requires-clause-end_boundary : goal.range-requires-clause-end_boundary
range-requires-clause-end_boundary c = fault_cuts c.args.text.now c.args.offset c.utf8.text (c.parser.ensures.reads c.args.text.now) c.requires
