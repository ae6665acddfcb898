use Rattle.std.proofs.Common.{[], ◌∷◌, subst}
use Rattle.giotto_tasks.specs.declared.names.Name.{Name}
use Rattle.rig_model.specs.text.ProgramTrees.{actuator_of}
use Rattle.script_checks.specs.Grants.{fact_of_actuator}
use Rattle.script_checks.specs.declared.facts.Fact.TheVariants.{Actuator}
use Rattle.script_checks.specs.inner.Facts.{Gains}
use Rattle.script_checks.proofs.FactSets.{fact_further, fact_of_each}
use Rattle.script_checks.proofs.facts.Facts.add_actuators.Goals as goal

pub loop-actuator-preserved : goal.loop-actuator-preserved
loop-actuator-preserved c =
    let l = c.loop-actuator in
    fact_further (λ a. fact_of_actuator c.args.tenant (actuator_of a)) c.args.actuators.now l.actuator-index c.actuator-item.result c.args.self.now l.self c.insert.new.self l.invariant c.loop-actuator-test.true c.actuator-item.is
    (subst (λ (n : Name). Gains (Actuator c.args.tenant n ∷ []) l.self c.insert.new.self) c.copy.ensures c.in_ok-insert.ensures)

pub returns : goal.returns
returns c =
    let l = c.loop-actuator in
    fact_of_each (fact_of_actuator c.args.tenant) actuator_of c.args.actuators.now l.actuator-index c.args.self.now l.self c.loop-actuator-test.false l.invariant
