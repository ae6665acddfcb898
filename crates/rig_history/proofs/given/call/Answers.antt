use Rattle.std.proofs.Common.{◌≢◌, ◌<◌, length, ap, ◌∙◌, arith}
use Rattle.rig_model.specs.config.Roster.{Rig}
use Rattle.rig_model.specs.declared.lines.replies.Refusal.TheVariants.{Memory}
use Rattle.rig_model.specs.declared.lines.replies.Reply.TheVariants.{Refused}
use Rattle.rig_history.proofs.Giving.{call_given}
use Rattle.rig_history.proofs.given.call.Goals as goal

pub returns : goal.returns
returns c =
    let room : c.command-reply.result ≢ Refused Memory = λ e. absurd (let f = c.if-is_memory.ensures.1 e in cc) in
    let place : c.args.tenant < length c.args.host.now.config.tenants =
    (let less = c.if-tenant-tenants.false in let same = ap length c.tenants.ensures.value in let rig = ap (λ (rig : Rig). length rig.tenants) c.config.ensures in omega (arith, less, same, rig)) in
    call_given c.args.host.now _ c.args.seat c.args.tenant c.in_ok-copy.copy c.args.command c.command-reply.result c.own.result (c.own.ensures ∙ c.in_ok-new.ensures.ok) c.in_ok-copy.ensures.same place
    (c.command-reply.ensures.reply room) (c.command-reply.ensures.step room)
