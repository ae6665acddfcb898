use Rattle.std.proofs.Common.{List, map, subst}
use Rattle.std.proofs.lemmas.Result.{on_ok_weaker}
use Rattle.rig_model.specs.text.Program.{SensorDeclaration, ActuatorDeclaration}
use Rattle.script_checks.specs.Grants.{fact_of_actuator, fact_of_sensor}
use Rattle.script_checks.specs.inner.Facts.{Gains}
use Rattle.script_checks.proofs.FactSets.{gains_both}
use Rattle.script_checks.proofs.facts.Facts.add_program.Goals as goal

pub returns : goal.returns
returns c =
    let t = c.args.tenant in
    let p = c.args.program.now in
    let before = c.args.self.now in
    let between = c.add_sensors.new.self in
    let after = c.add_actuators.new.self in
    let sensors = subst (λ (l : List SensorDeclaration). Gains (map (fact_of_sensor t) l) before between) c.sensors.ensures c.in_ok-add_sensors.ensures in
    on_ok_weaker c.add_actuators.result
    (λ gains. gains_both (map (fact_of_sensor t) p.sensors) (map (fact_of_actuator t) p.actuators) before between after sensors
    (subst (λ (l : List ActuatorDeclaration). Gains (map (fact_of_actuator t) l) between after) c.actuators.ensures gains)) c.add_actuators.ensures
