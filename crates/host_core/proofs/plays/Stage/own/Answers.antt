use Rattle.std.proofs.Common.{[], ◌∷◌, ◌++◌, ◌∙◌, ap, subst}
use Rattle.std.proofs.lemmas.List.{get_or_default}
use Rattle.std.proofs.lemmas.Result.{on_ok_weaker}
use Rattle.rig_model.specs.Host.{after_event, host_after}
use Rattle.rig_model.specs.HostState.{row_at}
use Rattle.host_core.specs.HostStanding.{Stands}
use Rattle.rig_model.specs.Views.{after_command}
use Rattle.rig_model.specs.declared.events.Event.TheVariants.{Own}
use Rattle.rig_model.specs.lines.Replies.{text_of_reply}
use Rattle.host_core.proofs.Played.{step_own}
use Rattle.host_core.proofs.plays.Stage.own.Goals as goal

pub returns : goal.returns
returns c = on_ok_weaker c.add_answer.result (λ added setting past may played.
    step_own setting played.base past c.args.tenant c.args.command.now c.args.self.now.host c.command-reply.new.self c.args.self.now.texts.items c.args.self.now.released.keys c.command-reply.result c.add_answer.new.text may
    (subst (λ d. Stands setting c.command-reply.new.self (after_event setting (host_after setting past) (Own c.args.tenant d))) c.in_ok-copy.ensures.same
    (c.command-reply.ensures.step added.0 setting (host_after setting past) played.stands))
    (c.command-reply.ensures.reply added.0 setting (host_after setting past) played.stands
    ∙ ap (λ d. (after_command setting c.args.tenant d (row_at (host_after setting past) c.args.tenant)).reply) c.in_ok-copy.ensures.same)
    (added.1
    ∙ ap (λ before. before ++ (text_of_reply c.command-reply.result ++ 10 ∷ []))
    (c.index_mut.ensures.value ∙ get_or_default c.args.self.now.texts.items c.args.tenant c.index_mut.result.now [] c.requires.text))
    played) c.add_answer.ensures
