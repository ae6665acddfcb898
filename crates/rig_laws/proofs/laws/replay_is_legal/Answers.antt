use Rattle.rig_laws.proofs.cited.Replays.{replay_legal}
use Rattle.rig_laws.proofs.laws.replay_is_legal.Goals as goal

pub returns : goal.returns
returns c = λ setting log base replay. replay_legal setting base log replay
