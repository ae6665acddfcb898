use Rattle.std.proofs.Common.{take}
use Rattle.std.specs.List.{flat_map}
use Rattle.giotto_reports.specs.Parts.{invocation}
use Rattle.rig_model.specs.text.ProgramTrees.{mode_of, invocation_of}
use Rattle.program_checks.specs.Excess.{words_of_part}
use Rattle.rig_model.specs.declared.text.programs.Invocation.{Invocation}
use Rattle.program_checks.specs.inner.Telling.{AreTold}
use Rattle.program_checks.proofs.budgets.Over.costly_invocations.Given as goal

abbrev pub invariant-loop-one : goal.invariant-loop-one
invariant-loop-one l = AreTold l.self.budget (flat_map (λ (x : Invocation). words_of_part l.self.held.tenant.now (invocation (mode_of l.mode) (invocation_of x))) (take l.one l.invocations)) l.initial.findings.items l.findings.items
