use Rattle.std.proofs.Common.{ap}
use Rattle.rig_model.specs.Answers.{answers_along}
use Rattle.rig_laws.proofs.laws.equal_views_give_equal_answers.Goals as goal

pub returns : goal.returns
returns c = λ setting past others t same. ap (answers_along setting t) same
