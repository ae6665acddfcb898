use Rattle.std.proofs.Common.{rules, true, false, refl, ap, sym, ◌∙◌, w64, FitsSigned as SFits}
use Rattle.std.proofs.lemmas.Int.{to_z-of_z}
use Rattle.host_core.specs.Questions.{reply_of_port}
use Rattle.rig_model.specs.declared.lines.commands.Command.TheVariants.{ShowPort}
use Rattle.rig_model.specs.declared.lines.replies.Reply.TheVariants.{Port, Refused}
use Rattle.rig_script.specs.cited.HostAnswers.{Adds}
use Rattle.rig_script.proofs.Steps.{refused_for_each, told_for_each}
use Rattle.rig_script.proofs.host_answers.show_port.Goals as goal

pub returns-in_ok-write_shown-in-Ok-clause-reply : goal.returns-in_ok-write_shown-in-Ok-clause-reply
returns-in_ok-write_shown-in-Ok-clause-reply c =
    let fits : SFits w64 c.in-Ok.value = search rules in
    let said = rw (to_z-of_z w64 c.in-Ok.value fits) at c.in_ok-write_shown-in-Ok.ensures in
    told_for_each (Adds c.args.text.now c.write_shown.new.text) c.args.host.now c.args.tenant (ShowPort c.args.port.now) c.args.name.now (Port (record { port = c.args.port.now; value = c.in-Ok.value }))
    (λ setting state stands. ap (reply_of_port c.args.port.now) (sym c.in-Ok.is) ∙ c.port_value.ensures.reply setting state stands) said

pub returns-in_ok-write_reply-in-Err-clause-reply : goal.returns-in_ok-write_reply-in-Err-clause-reply
returns-in_ok-write_reply-in-Err-clause-reply c =
    told_for_each (Adds c.args.text.now c.write_reply.new.text) c.args.host.now c.args.tenant (ShowPort c.args.port.now) c.args.name.now (Refused c.in-Err.refusal)
    (λ setting state stands. ap (reply_of_port c.args.port.now) (sym c.in-Err.is) ∙ c.port_value.ensures.reply setting state stands) c.in_ok-write_reply-in-Err.ensures

pub returns-in_ok-write_shown-in-Ok-clause-refused : goal.returns-in_ok-write_shown-in-Ok-clause-refused
returns-in_ok-write_shown-in-Ok-clause-refused c =
    refused_for_each c.args.host.now c.args.tenant (ShowPort c.args.port.now) (Port (record { port = c.args.port.now; value = c.in-Ok.value })) false
    (λ setting state stands. ap (reply_of_port c.args.port.now) (sym c.in-Ok.is) ∙ c.port_value.ensures.reply setting state stands) refl

pub returns-in_ok-write_reply-in-Err-clause-refused : goal.returns-in_ok-write_reply-in-Err-clause-refused
returns-in_ok-write_reply-in-Err-clause-refused c =
    refused_for_each c.args.host.now c.args.tenant (ShowPort c.args.port.now) (Refused c.in-Err.refusal) true
    (λ setting state stands. ap (reply_of_port c.args.port.now) (sym c.in-Err.is) ∙ c.port_value.ensures.reply setting state stands) refl
