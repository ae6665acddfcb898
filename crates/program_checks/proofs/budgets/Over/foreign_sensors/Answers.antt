use Rattle.rig_model.specs.text.ProgramTrees.{sensor_of}
use Rattle.program_checks.specs.Excess.{words_of_sensor}
use Rattle.rig_model.specs.declared.text.programs.Sensor.{Sensor}
use Rattle.program_checks.proofs.Telling.{told_further}
use Rattle.program_checks.proofs.budgets.Over.foreign_sensors.Goals as goal

pub loop-place-preserved : goal.loop-place-preserved
loop-place-preserved c =
    let l = c.loop-place in
    told_further c.args.self.now.budget (λ (x : Sensor). words_of_sensor c.args.self.now.held.tenant.now (sensor_of x)) c.args.sensors.now l.place c.index-sensors-place.result
    c.args.findings.now.items l.findings.items c.foreign_sensor.new.findings.items l.invariant c.loop-place-test.true c.index-sensors-place.is c.in_ok-foreign_sensor.ensures
