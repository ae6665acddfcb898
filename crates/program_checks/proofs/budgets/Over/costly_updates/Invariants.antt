use Rattle.std.proofs.Common.{take}
use Rattle.std.specs.List.{flat_map}
use Rattle.giotto_reports.specs.Parts.{update}
use Rattle.rig_model.specs.text.ProgramTrees.{mode_of, update_of}
use Rattle.program_checks.specs.Excess.{words_of_part}
use Rattle.rig_model.specs.declared.text.programs.Update.{Update}
use Rattle.program_checks.specs.inner.Telling.{AreTold}
use Rattle.program_checks.proofs.budgets.Over.costly_updates.Given as goal

abbrev pub invariant-loop-one : goal.invariant-loop-one
invariant-loop-one l = AreTold l.self.budget (flat_map (λ (x : Update). words_of_part l.self.held.tenant.now (update (mode_of l.mode) (update_of x))) (take l.one l.updates)) l.initial.findings.items l.findings.items
