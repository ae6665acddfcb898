use Rattle.rig_model.specs.Host.{host_after}
use Rattle.host_core.proofs.Played.{step_tick}
use Rattle.host_core.proofs.plays.Stage.tick.Goals as goal

pub returns : goal.returns
returns c = λ setting past may played.
    step_tick setting played.base past c.args.frame.now c.args.self.now.host c.tick.new.self c.args.self.now.texts.items c.args.self.now.released.keys c.add_names.new.names.keys c.in-Ok.jobs.jobs may
    (c.in-Ok.ensures.step setting (host_after setting past) played.stands) c.in-Ok.ensures.known c.in-Ok.ensures.jobs c.in_ok-add_names.ensures played
