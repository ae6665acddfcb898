use Rattle.std.proofs.Common.{List, ℕ, subst}
use Rattle.giotto_reports.specs.Parts.{part_of}
use Rattle.program_checks.proofs.Telling.{costly}
use Rattle.program_checks.specs.inner.Telling.{AreTold}
use Rattle.program_checks.proofs.budgets.Over.costly_part.Goals as goal

pub returns : goal.returns
returns c =
    subst (λ (ws : List (List ℕ)). AreTold c.args.self.now.budget ws c.args.findings.now.items c.add.new.findings.items)
    (costly c.args.self.now.held.tenant.now (part_of c.args.part.now) c.cost.result _ c.cost.ensures c.if-cost-self.false c.in_ok-message.ensures) c.in_ok-add.ensures
