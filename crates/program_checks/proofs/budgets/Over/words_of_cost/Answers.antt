use Rattle.program_checks.proofs.budgets.Over.words_of_cost.Goals as goal

pub returns : goal.returns
returns c = rw (c.cost-cost.ensures, c.as_str-tenant.ensures) at c.format.ensures.ok
