use Rattle.std.proofs.Common.{⊎_elim, ◌∙◌, arith}
use Rattle.std.proofs.lemmas.Option.{slice_get_cases}
use Rattle.tenant_slots.proofs.cited.InvokedPeriods.{period_at}
use Rattle.tenant_slots.proofs.periods.period_of.Goals as goal

pub returns-clause-there : goal.returns-clause-there
returns-clause-there c m at =
    ⊎_elim
    (λ task. c.interval_of.ensures ∙ period_at c.args.checked.now c.known.ensures.fits m c.args.task task.0 task.2 c.invocations.result.now (c.invocations.ensures.there m at))
    (λ past. absurd (omega (arith, past.0, c.requires.task)))
    (slice_get_cases c.args.checked.now.tasks c.args.task).1
