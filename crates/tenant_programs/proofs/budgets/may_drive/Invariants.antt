use Rattle.std.proofs.Common.{◌≡◌, drop}
use Rattle.std.specs.List.{list_all}
use Rattle.rig_model.specs.config.Roster.{may_use}
use Rattle.tenant_programs.proofs.ProgramLines.{lines_of_actuators}
use Rattle.tenant_programs.proofs.budgets.may_drive.Given as goal

abbrev pub invariant-loop-actuator : goal.invariant-loop-actuator
invariant-loop-actuator l = list_all (may_use l.lines) (lines_of_actuators (drop l.actuator-index l.actuators)) ≡ list_all (may_use l.lines) (lines_of_actuators l.actuators)
