use Rattle.std.proofs.Common.{List, ℕ, subst}
use Rattle.program_checks.proofs.Telling.{all_parts, both_told}
use Rattle.program_checks.specs.Excess.{words_of_part}
use Rattle.program_checks.specs.inner.Telling.{AreTold}
use Rattle.program_checks.proofs.budgets.Over.costly_parts.Goals as goal

pub returns : goal.returns
returns c =
    let budget = c.args.self.now.budget in
    subst (λ (ws : List (List ℕ)). AreTold budget ws c.args.findings.now.items c.costly_modes.new.findings.items)
    (all_parts (words_of_part c.args.self.now.held.tenant.now) c.args.program.now c.tasks.result.now c.modes.result.now c.tasks.ensures c.modes.ensures)
    (both_told budget _ _ c.args.findings.now.items c.costly_bodies.new.findings.items c.costly_modes.new.findings.items c.in_ok-costly_bodies.ensures c.in_ok-costly_modes.ensures)
