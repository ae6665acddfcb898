use Rattle.rig_model.specs.Host.{host_after}
use Rattle.host_core.proofs.Played.{step_done}
use Rattle.host_core.proofs.plays.Stage.done.Goals as goal

pub returns-clause-played : goal.returns-clause-played
returns-clause-played c = λ setting past may played.
    step_done setting played.base past c.args.id.now c.args.self.now.host c.complete.new.host c.args.self.now.texts.items c.args.self.now.released.keys may
    (c.in_ok-complete.ensures.step setting (host_after setting past) played.stands) played
