use Rattle.std.proofs.Common.{ap, ◌∙◌}
use Rattle.giotto_tasks.specs.Names.{is_among}
use Rattle.giotto_rules.specs.Declarations.{output_names}
use Rattle.giotto_check.proofs.DriverReads.{output_is_port}
use Rattle.giotto_check.proofs.TestLists.{passes_at}
use Rattle.giotto_check.proofs.numbering.numbered.Numbered.outputs.Goals as goal

pub slot-requires : goal.slot-requires
slot-requires c =
    let p = c.args.self.now in
    let x = c.name-item.result in
    output_is_port p x (ap (is_among (output_names p)) c.name-item.is ∙ passes_at (is_among (output_names p)) c.args.names.now c.loop-name.name-index x c.requires c.loop-name-test.true)
