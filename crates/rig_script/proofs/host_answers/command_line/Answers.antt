use Rattle.std.proofs.Common.{Err, refl, ap, ◌∙◌}
use Rattle.rig_script.specs.cited.HostAnswers.{Adds}
use Rattle.rig_script.proofs.Steps.{command_answered, command_refused, none_told}
use Rattle.rig_script.proofs.host_answers.command_line.Goals as goal

pub returns : goal.returns
returns g c = λ setting past h.
    command_answered setting past c.args.host.now c.answer_command.new.host h c.answer_command.result (g.R.Record.has_recorded c.args.events.now) (g.R.Record.has_recorded c.command.new.self) (Adds c.args.text.now c.answer_command.new.text)
    c.args.tenant c.args.name.now c.args.line.now c.in-Ok.command c.requires.within c.requires.named c.in-Ok.ensures.command c.answer_command.ensures.reply c.answer_command.ensures.refused c.answer_command.ensures.step c.in_ok-command.ensures

pub returns-in-Err-BadCommand : goal.returns-in-Err-BadCommand
returns-in-Err-BadCommand g c = λ setting past h.
    let told = g.R.Record.has_recorded c.args.events.now in
    command_refused setting past c.args.host.now c.args.host.now h c.refuse.result told told (Adds c.args.text.now c.refuse.new.text)
    c.args.tenant c.args.name.now c.args.line.now c.requires.named (c.command_of.ensures.none (c.in-Err-BadCommand.is ∙ ap (λ x. Err x) c.in-Err-BadCommand.field-0-is)) refl c.refuse.ensures.reply c.refuse.ensures.refused (none_told told)
