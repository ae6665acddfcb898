use Rattle.std.proofs.Common.{None, ◌∷◌, [], subst}
use Rattle.rig_model.specs.declared.events.Event.TheVariants.{Own}
use Rattle.rig_model.specs.declared.lines.commands.Command.TheVariants.{ShowPort}
use Rattle.rig_script.specs.cited.HostAnswers.{Adds}
use Rattle.rig_script.specs.inner.Records.{IsRecorded}
use Rattle.rig_script.proofs.Steps.{command_answered, on_ok}
use Rattle.rig_script.proofs.host_answers.tenant_line.Goals as goal

pub returns : goal.returns
returns g c = λ setting past h.
    let before = g.R.Record.has_recorded c.args.events.now in
    let after = g.R.Record.has_recorded c.command.new.self in
    command_answered setting past c.args.host.now c.args.host.now h c.show_port.result before after (Adds c.args.text.now c.show_port.new.text) c.args.tenant c.args.name.now c.args.line.now (ShowPort (record { task = None; name = c.in-Some.shown }))
    c.requires.within c.requires.named c.in-Some.ensures c.show_port.ensures.reply c.show_port.ensures.refused (on_ok c.show_port.result c.show_port.ensures.step)
    (subst (λ port. IsRecorded before after (Own c.args.tenant (ShowPort port) ∷ [])) c.copy.ensures c.in_ok-command.ensures)
