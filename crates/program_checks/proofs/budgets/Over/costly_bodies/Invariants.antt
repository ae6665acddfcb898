use Rattle.std.proofs.Common.{take}
use Rattle.std.specs.List.{flat_map}
use Rattle.giotto_reports.specs.Parts.{body}
use Rattle.rig_model.specs.text.ProgramTrees.{task_of}
use Rattle.program_checks.specs.Excess.{words_of_part}
use Rattle.rig_model.specs.declared.text.programs.Task.{Task}
use Rattle.program_checks.specs.inner.Telling.{AreTold}
use Rattle.program_checks.proofs.budgets.Over.costly_bodies.Given as goal

abbrev pub invariant-loop-place : goal.invariant-loop-place
invariant-loop-place l = AreTold l.self.budget (flat_map (λ (x : Task). words_of_part l.self.held.tenant.now (body (task_of x))) (take l.place l.tasks)) l.initial.findings.items l.findings.items
