use Rattle.std.proofs.Common.{Err, refl, ap, ◌∙◌}
use Rattle.rig_model.specs.lines.CommandLine.{command_of_line}
use Rattle.rig_sessions.proofs.SessionLines.{some_command}
use Rattle.rig_sessions.proofs.sessions.unasked.Goals as goal

pub returns-in-Memory : goal.returns-in-Memory
returns-in-Memory c =
    let some = some_command (command_of_line c.args.line.now) (c.command_of.ensures.memory (c.in-Err.is ∙ ap (λ f. Err f) c.in-Memory.is)) in
    rw some refl
