use Rattle.rig_laws.proofs.cited.TwoWorlds.{kept_answers}
use Rattle.rig_laws.proofs.laws.kept_list_gives_equal_answers.Goals as goal

pub returns : goal.returns
returns c = kept_answers
