use Rattle.rig_laws.proofs.cited.Replays.{log_kept_answers}
use Rattle.rig_laws.proofs.laws.log_has_kept_answers.Goals as goal

pub returns : goal.returns
returns c = log_kept_answers
