use Rattle.std.proofs.Common.{take}
use Rattle.std.specs.List.{flat_map}
use Rattle.rig_model.specs.text.ProgramTrees.{sensor_of}
use Rattle.program_checks.specs.Excess.{words_of_sensor}
use Rattle.rig_model.specs.declared.text.programs.Sensor.{Sensor}
use Rattle.program_checks.specs.inner.Telling.{AreTold}
use Rattle.program_checks.proofs.budgets.Over.foreign_sensors.Given as goal

abbrev pub invariant-loop-place : goal.invariant-loop-place
invariant-loop-place l = AreTold l.self.budget (flat_map (λ (x : Sensor). words_of_sensor l.self.held.tenant.now (sensor_of x)) (take l.place l.sensors)) l.initial.findings.items l.findings.items
