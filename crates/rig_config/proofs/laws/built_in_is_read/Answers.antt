use Rattle.rig_config.proofs.ConfigExamples.{built_in_read}
use Rattle.rig_config.proofs.laws.built_in_is_read.Goals as goal

pub returns : goal.returns
returns c = built_in_read
