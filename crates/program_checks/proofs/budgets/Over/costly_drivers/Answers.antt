use Rattle.std.proofs.Common.{List, ℕ, subst}
use Rattle.program_checks.proofs.Telling.{all_drivers, both_told}
use Rattle.program_checks.specs.Excess.{words_of_part}
use Rattle.program_checks.specs.inner.Telling.{AreTold}
use Rattle.program_checks.proofs.budgets.Over.costly_drivers.Goals as goal

pub returns : goal.returns
returns c =
    let budget = c.args.self.now.budget in
    subst (λ (ws : List (List ℕ)). AreTold budget ws c.args.findings.now.items c.costly_invocations.new.findings.items) (all_drivers (words_of_part c.args.self.now.held.tenant.now) c.args.mode.now)
    (both_told budget _ _ c.args.findings.now.items c.costly_updates.new.findings.items c.costly_invocations.new.findings.items c.in_ok-costly_updates.ensures
    (both_told budget _ _ c.costly_updates.new.findings.items c.costly_switches.new.findings.items c.costly_invocations.new.findings.items c.in_ok-costly_switches.ensures c.in_ok-costly_invocations.ensures))
