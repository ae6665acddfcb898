use Rattle.std.proofs.Common.{take}
use Rattle.std.specs.List.{flat_map}
use Rattle.giotto_reports.specs.Parts.{switch}
use Rattle.rig_model.specs.text.ProgramTrees.{mode_of, switch_of}
use Rattle.program_checks.specs.Excess.{words_of_part}
use Rattle.rig_model.specs.declared.text.programs.Switch.{Switch}
use Rattle.program_checks.specs.inner.Telling.{AreTold}
use Rattle.program_checks.proofs.budgets.Over.costly_switches.Given as goal

abbrev pub invariant-loop-one : goal.invariant-loop-one
invariant-loop-one l = AreTold l.self.budget (flat_map (λ (x : Switch). words_of_part l.self.held.tenant.now (switch (mode_of l.mode) (switch_of x))) (take l.one l.switches)) l.initial.findings.items l.findings.items
