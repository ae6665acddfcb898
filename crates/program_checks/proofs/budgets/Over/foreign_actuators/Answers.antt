use Rattle.rig_model.specs.text.ProgramTrees.{actuator_of}
use Rattle.program_checks.specs.Excess.{words_of_actuator}
use Rattle.rig_model.specs.declared.text.programs.Actuator.{Actuator}
use Rattle.program_checks.proofs.Telling.{told_further}
use Rattle.program_checks.proofs.budgets.Over.foreign_actuators.Goals as goal

pub loop-place-preserved : goal.loop-place-preserved
loop-place-preserved c =
    let l = c.loop-place in
    told_further c.args.self.now.budget (λ (x : Actuator). words_of_actuator c.args.self.now.held.tenant.now (actuator_of x)) c.args.actuators.now l.place c.index-actuators-place.result
    c.args.findings.now.items l.findings.items c.foreign_actuator.new.findings.items l.invariant c.loop-place-test.true c.index-actuators-place.is c.in_ok-foreign_actuator.ensures
