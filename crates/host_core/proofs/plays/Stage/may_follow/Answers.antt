use Rattle.std.proofs.Common.{◌∙◌, sym, ap, length}
use Rattle.rig_model.specs.Legal.{may_follow}
use Rattle.host_core.proofs.Played.{tick_legal}
use Rattle.host_core.proofs.ReleasedNames.{found_in}
use Rattle.host_core.proofs.plays.Stage.may_follow.Goals as goal
use Rattle.rig_model.specs.config.Roster.{Rig}

pub returns-then-as_slice-lines-clause-legal : goal.returns-then-as_slice-lines-clause-legal
returns-then-as_slice-lines-clause-legal c = λ setting past played.
    tick_legal setting played.base past c.in-Tick.frame c.args.self.now.host c.args.self.now.texts.items c.args.self.now.released.keys c.clock.result c.lines.result
    c.clock.ensures (sym c.if-as_slice-lines.true ∙ ap length c.as_slice.ensures) (c.lines.ensures.value ∙ ap (λ (k : Rig). k.lines) c.config-in-Tick.ensures) played
    ∙ ap (may_follow setting past) (sym c.in-Tick.is)

pub returns-in-Done-clause-legal : goal.returns-in-Done-clause-legal
returns-in-Done-clause-legal c = λ setting past played.
    c.contains.ensures ∙ (found_in c.in-Done.id c.args.self.now.released.keys ∙ (played.names c.in-Done.id ∙ ap (may_follow setting past) (sym c.in-Done.is)))
