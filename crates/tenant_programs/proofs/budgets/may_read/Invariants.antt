use Rattle.std.proofs.Common.{◌≡◌, drop}
use Rattle.std.specs.List.{list_all}
use Rattle.rig_model.specs.config.Roster.{may_use}
use Rattle.tenant_programs.proofs.ProgramLines.{lines_of_sensors}
use Rattle.tenant_programs.proofs.budgets.may_read.Given as goal

abbrev pub invariant-loop-sensor : goal.invariant-loop-sensor
invariant-loop-sensor l = list_all (may_use l.lines) (lines_of_sensors (drop l.sensor-index l.sensors)) ≡ list_all (may_use l.lines) (lines_of_sensors l.sensors)
