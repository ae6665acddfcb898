use Rattle.rig_laws.proofs.cited.Replays.{log_answers}
use Rattle.rig_laws.proofs.laws.log_has_answers.Goals as goal

pub returns : goal.returns
returns c = log_answers
