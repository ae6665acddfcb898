use Rattle.std.proofs.Common.{◌≡◌, Some, rules}
use Rattle.rig_model.specs.lines.CommandLine.{command_of_line}
use Rattle.rig_model.specs.lines.Words.{behind_first_word}
use Rattle.script_checks.proofs.Tellings.{tells_program}
use Rattle.script_checks.specs.Told.{program_in}
use Rattle.script_checks.proofs.lines.examine_command.Goals as goal

pub returns-in-Ok-Load-clause-told : goal.returns-in-Ok-Load-clause-told
returns-in-Ok-Load-clause-told c =
    let line = c.args.line.now in
    let brought : program_in (command_of_line (behind_first_word line)) ≡ Some c.as_str.result.now = search rules in
    tells_program c.args.config.now c.args.tenant.now line c.as_str.result.now c.examine_program.result brought c.examine_program.ensures.told
