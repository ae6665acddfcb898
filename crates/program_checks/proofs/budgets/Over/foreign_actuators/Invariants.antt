use Rattle.std.proofs.Common.{take}
use Rattle.std.specs.List.{flat_map}
use Rattle.rig_model.specs.text.ProgramTrees.{actuator_of}
use Rattle.program_checks.specs.Excess.{words_of_actuator}
use Rattle.rig_model.specs.declared.text.programs.Actuator.{Actuator}
use Rattle.program_checks.specs.inner.Telling.{AreTold}
use Rattle.program_checks.proofs.budgets.Over.foreign_actuators.Given as goal

abbrev pub invariant-loop-place : goal.invariant-loop-place
invariant-loop-place l = AreTold l.self.budget (flat_map (λ (x : Actuator). words_of_actuator l.self.held.tenant.now (actuator_of x)) (take l.place l.actuators)) l.initial.findings.items l.findings.items
