use Rattle.std.proofs.Common.{[], ◌∷◌, subst}
use Rattle.rig_model.specs.text.ProgramTrees.{sensor_of}
use Rattle.script_checks.specs.Grants.{fact_of_sensor}
use Rattle.script_checks.specs.declared.facts.Fact.{Fact}
use Rattle.script_checks.specs.inner.Facts.{Gains}
use Rattle.script_checks.proofs.FactSets.{fact_further, fact_of_each}
use Rattle.script_checks.proofs.facts.Facts.add_sensors.Goals as goal

pub loop-sensor-preserved : goal.loop-sensor-preserved
loop-sensor-preserved c =
    let l = c.loop-sensor in
    fact_further (λ s. fact_of_sensor c.args.tenant (sensor_of s)) c.args.sensors.now l.sensor-index c.sensor-item.result c.args.self.now l.self c.insert.new.self l.invariant c.loop-sensor-test.true c.sensor-item.is
    (subst (λ (f : Fact). Gains (f ∷ []) l.self c.insert.new.self) c.fact_of_sensor.ensures c.in_ok-insert.ensures)

pub returns : goal.returns
returns c =
    let l = c.loop-sensor in
    fact_of_each (fact_of_sensor c.args.tenant) sensor_of c.args.sensors.now l.sensor-index c.args.self.now l.self c.loop-sensor-test.false l.invariant
