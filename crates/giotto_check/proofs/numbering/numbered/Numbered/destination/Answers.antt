use Rattle.giotto_check.proofs.DriverReads.{output_is_port}
use Rattle.giotto_check.proofs.numbering.numbered.Numbered.destination.Goals as goal

pub slot-requires : goal.slot-requires
slot-requires c = output_is_port c.args.self.now c.args.destination.now.output c.requires.output
