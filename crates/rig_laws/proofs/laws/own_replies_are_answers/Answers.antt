use Rattle.rig_laws.proofs.OwnReplies.{answered_along}
use Rattle.rig_laws.proofs.laws.own_replies_are_answers.Goals as goal

pub returns : goal.returns
returns c = answered_along
