use Rattle.std.proofs.Common.{rules, ◌≡◌, refl}
use Rattle.giotto_rules.proofs.rules.kinds.uses_with_ports.Goals as goal

-- src/rules/kinds.rt:55:1
pub returns : goal.returns
returns c = rw (c.program_uses.ensures, c.in_ok-actuators.ensures, c.in_ok-actuator_names.ensures, c.program.ensures, c.in_ok-outputs.ensures, c.in_ok-output_names.ensures, c.program-2.ensures, c.program-3.ensures, c.tasks_by_name.ensures, c.modes_by_name.ensures, c.requires) refl
