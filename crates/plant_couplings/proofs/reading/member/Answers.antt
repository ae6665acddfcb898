use Rattle.toml.proofs.Views.{table_get}
use Rattle.plant_couplings.proofs.reading.member.Goals as goal

pub returns : goal.returns
returns c = table_get c.get.result c.args.word.now c.args.fields.now.entries c.get.ensures.value
