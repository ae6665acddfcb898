use Rattle.std.proofs.Common.{◌≡◌, ap, ◌∙◌, subst}
use Rattle.host_core.specs.HostStanding.{TakesEvent}
use Rattle.rig_model.specs.HostState.{row_at}
use Rattle.rig_model.specs.Views.{after_command}
use Rattle.rig_model.specs.declared.events.Event.TheVariants.{Own}
use Rattle.rig_model.specs.declared.lines.replies.Refusal.TheVariants.{Memory}
use Rattle.rig_model.specs.declared.lines.replies.Reply.TheVariants.{Refused}
use Rattle.rig_script.specs.cited.HostAnswers.{Adds}
use Rattle.rig_script.proofs.Steps.{refused_for_each, told_for_each}
use Rattle.rig_script.proofs.host_answers.answer_command.Goals as goal

pub returns-clause-reply : goal.returns-clause-reply
returns-clause-reply c =
    let some : c.carry_out-reply.result ≡ Refused Memory → ⊥ = λ memory. let is = c.is_memory.ensures.1 memory in let no = c.if-is_memory.false in absurd (cc) in
    told_for_each (Adds c.args.text.now c.write_reply.new.text) c.args.host.now c.args.tenant c.args.command c.args.name.now c.carry_out-reply.result
    (λ setting state stands. c.carry_out-reply.ensures.reply some setting state stands ∙ ap (λ d. (after_command setting c.args.tenant d (row_at state c.args.tenant)).reply) c.prepare.ensures) c.in_ok-write_reply.ensures

pub returns-clause-refused : goal.returns-clause-refused
returns-clause-refused c =
    let some : c.carry_out-reply.result ≡ Refused Memory → ⊥ = λ memory. let is = c.is_memory.ensures.1 memory in let no = c.if-is_memory.false in absurd (cc) in
    refused_for_each c.args.host.now c.args.tenant c.args.command c.carry_out-reply.result c.is_refused.result
    (λ setting state stands. c.carry_out-reply.ensures.reply some setting state stands ∙ ap (λ d. (after_command setting c.args.tenant d (row_at state c.args.tenant)).reply) c.prepare.ensures) c.is_refused.ensures

pub returns-clause-step : goal.returns-clause-step
returns-clause-step c =
    let some : c.carry_out-reply.result ≡ Refused Memory → ⊥ = λ memory. let is = c.is_memory.ensures.1 memory in let no = c.if-is_memory.false in absurd (cc) in
    subst (λ d. TakesEvent (Own c.args.tenant d) c.args.host.now c.carry_out-reply.new.self) c.prepare.ensures (c.carry_out-reply.ensures.step some)
