use Rattle.std.proofs.Common.{take}
use Rattle.std.specs.List.{flat_map}
use Rattle.giotto_reports.specs.Parts.{drivers_of}
use Rattle.rig_model.specs.text.ProgramTrees.{mode_of}
use Rattle.program_checks.specs.Excess.{words_of_part}
use Rattle.rig_model.specs.declared.text.programs.Mode.{Mode}
use Rattle.program_checks.specs.inner.Telling.{AreTold}
use Rattle.program_checks.proofs.budgets.Over.costly_modes.Given as goal

abbrev pub invariant-loop-place : goal.invariant-loop-place
invariant-loop-place l = AreTold l.self.budget (flat_map (λ (x : Mode). flat_map (words_of_part l.self.held.tenant.now) (drivers_of (mode_of x))) (take l.place l.modes)) l.initial.findings.items l.findings.items
