use Rattle.std.proofs.Common.{◌<◌, length, subst, sym, ⊎_elim, arith, rules}
use Rattle.std.proofs.lemmas.Option.{slice_get_cases}
use Rattle.giotto_check.specs.cited.Timetables.{AreTaskSlots}
use Rattle.giotto_check.proofs.cited.EachLemmas.{each_long}
use Rattle.tenant_slots.proofs.cited.Numbered.{task_slots_at}
use Rattle.tenant_slots.proofs.tasks.slots_at.Goals as goal

inside : (c : goal.After-tasks) → c.args.task < length c.tasks.result.now
inside c = omega (arith, c.requires, each_long (AreTaskSlots c.args.checked.now) _ _ c.tasks.ensures)

pub bounds-tasks-task : goal.bounds-tasks-task
bounds-tasks-task = inside

pub offset_bounds-tasks-task : goal.offset_bounds-tasks-task
offset_bounds-tasks-task c = let here = inside c in search rules

pub returns-clause-slots : goal.returns-clause-slots
returns-clause-slots c =
    let p = c.args.checked.now in
    let e = c.index-tasks-task.result in
    ⊎_elim (λ found. (found.0, found.2, subst (AreTaskSlots p found.0) (sym c.index-tasks-task.is) (task_slots_at p c.tasks.result.now c.args.task found.0 e c.tasks.ensures found.2).1))
    (λ past. absurd (omega (arith, past.0, c.requires))) (slice_get_cases p.tasks c.args.task).1
