use Rattle.std.proofs.Common.{List, ℕ, sym, ap, subst, ◌∙◌}
use Rattle.std.specs.List.{flat_map}
use Rattle.std.proofs.lemmas.List.Folds.{flat_map-map}
use Rattle.rig_model.specs.text.ProgramTrees.{actuator_of, sensor_of}
use Rattle.program_checks.proofs.Telling.{both_told}
use Rattle.program_checks.specs.Excess.{words_of_actuator, words_of_sensor}
use Rattle.program_checks.specs.inner.Telling.{AreTold}
use Rattle.program_checks.proofs.budgets.Over.foreign_lines.Goals as goal

pub returns : goal.returns
returns c =
    let budget = c.args.self.now.budget in
    let tenant = c.args.self.now.held.tenant.now in
    let sensors = sym (flat_map-map (words_of_sensor tenant) sensor_of c.sensors.result.now) ∙ ap (flat_map (words_of_sensor tenant)) c.sensors.ensures in
    let actuators = sym (flat_map-map (words_of_actuator tenant) actuator_of c.actuators.result.now) ∙ ap (flat_map (words_of_actuator tenant)) c.actuators.ensures in
    both_told budget _ _ c.args.findings.now.items c.foreign_sensors.new.findings.items c.foreign_actuators.new.findings.items
    (subst (λ (ws : List (List ℕ)). AreTold budget ws c.args.findings.now.items c.foreign_sensors.new.findings.items) sensors c.in_ok-foreign_sensors.ensures)
    (subst (λ (ws : List (List ℕ)). AreTold budget ws c.foreign_sensors.new.findings.items c.foreign_actuators.new.findings.items) actuators c.in_ok-foreign_actuators.ensures)
