use Rattle.std.proofs.Common.{refl, ◌≡◌, ℕ, ◌+◌, ◌<◌, ◌%◌, ◌==◌, ◌&&◌, true, [], drop, map, length, ap, sym, subst, ◌∙◌, arith}
use Rattle.std.specs.List.{flat_map, AllByRecursion}
use Rattle.std.proofs.lemmas.List.{drop_all, drop_more}
use Rattle.tenant_slots.specs.well_formed.Slots.{valuation_of}
use Rattle.tenant_slots.specs.well_formed.cited.Timetables.{AreEach, IsInvocation}
use Rattle.rig_model.specs.text.Program.{ModeDeclaration}
use Rattle.giotto_check.specs.declared.timetables.SlotInvocation.{SlotInvocation}
use Rattle.tenant_slots.proofs.of_well_formed.EachLemmas.{each_long}
use Rattle.tenant_slots.proofs.cited.Updates.{each_item}
use Rattle.rig_model.specs.FirstHalf.{all_ended}
use Rattle.tenant_state.specs.Tenants.{active_of}
use Rattle.tenant_state.specs.inner.Tenants.{IsActiveOf, IsResultRight, is_done}
use Rattle.tenant_state.proofs.DueTasks.{group}
use Rattle.tenant_state.proofs.EndedTasks.{end_due, end_none, ended_one_by_one, left_none, not_here, noted_one_by_one}
use Rattle.tenant_state.specs.inner.EntryTable.{ends_noted, is_left_open, is_task_open}
use Rattle.tenant_state.proofs.EntryTables.{each_found, same_entries, same_open}
use Rattle.tenant_state.proofs.tenants.phase_one.end_due.Goals as goal
use Rattle.tenant_state.proofs.tenants.phase_one.end_due.Goals.{then-is_due, else-is_due}

pub loop-invocation-preserved : goal.loop-invocation-preserved
loop-invocation-preserved c =
    let p = c.args.ending.now.checked.now in
    let es = c.args.invocations.now in
    let items = c.args.active.now in
    let k = c.loop-invocation.invocation-index in
    let e = c.invocation-item.result in
    let before = c.loop-invocation.invariant in
    let rest = drop_more es k e c.loop-invocation-test.true in
    let now : (c.args.ending.now.time % e.interval == 0) ≡ c.is_due.result = ap (λ (t : ℕ). t % e.interval == 0) (sym before.time) ∙ sym c.is_due.ensures.due in
    record {
      time = c.is_due.ensures.time ∙ before.time;
      long = c.if-is_due.auto.values ∙ before.long;
      positive = (subst (AllByRecursion (λ (i : SlotInvocation). 0 < i.interval)) rest before.positive).1;
      there = (subst (AllByRecursion (λ (i : SlotInvocation). i.task < length p.tasks)) rest before.there).1;
      done = left_none (is_left_open c.args.ending.now.time (is_done c.args.ending.now.finished.now.entries c.args.ending.now.tenant p) items) es k e c.loop-invocation-test.true before.done;
      value = λ m each.
          let item = each_item (IsInvocation p m) m.invocations es k e each c.loop-invocation-test.true c.invocation-item.is in
          elim c.if-is_due.branch [
            | then-is_due w ↦ end_due p c.known.ensures.fits m c.args.ending.now.time items c.requires.active m.invocations item.0 e k item.1 item.2 (all_ended p) (ended_one_by_one p) (now ∙ w.if-is_due.true) _ _ _
                (ap (valuation_of p) w.values-is ∙ w.end_each.ensures.ended ∙ ap (λ xs. all_ended p (map (active_of p) xs) (valuation_of p c.loop-invocation.values)) (same_entries e.task items w.entries_of-entries.result.now w.entries_of-entries.ensures)) (before.value m each)
            | else-is_due w ↦ ap (λ vs. all_ended p (flat_map (group m c.args.ending.now.time (map (active_of p) items)) (drop (k + 1) m.invocations)) (valuation_of p vs)) w.values-is
                ∙ end_none p c.known.ensures.fits m c.args.ending.now.time items c.requires.active m.invocations item.0 e k item.1 item.2 (all_ended p) (ended_one_by_one p) (now ∙ w.if-is_due.false) (λ s. refl) _ _ (before.value m each)
          ];
      told = λ m each.
          let item = each_item (IsInvocation p m) m.invocations es k e each c.loop-invocation-test.true c.invocation-item.is in
          let noted = ends_noted p c.args.ending.now.tick in
          elim c.if-is_due.branch [
            | then-is_due w ↦ end_due p c.known.ensures.fits m c.args.ending.now.time items c.requires.active m.invocations item.0 e k item.1 item.2 noted (noted_one_by_one p c.args.ending.now.tick) (now ∙ w.if-is_due.true) _ _ _
                (w.trace-is ∙ w.end_each.ensures.noted ∙ ap (λ xs. noted (map (active_of p) xs) c.loop-invocation.trace) (same_entries e.task items w.entries_of-entries.result.now w.entries_of-entries.ensures)) (before.told m each)
            | else-is_due w ↦ ap (λ t. noted (flat_map (group m c.args.ending.now.time (map (active_of p) items)) (drop (k + 1) m.invocations)) t) w.trace-is
                ∙ end_none p c.known.ensures.fits m c.args.ending.now.time items c.requires.active m.invocations item.0 e k item.1 item.2 noted (noted_one_by_one p c.args.ending.now.tick) (now ∙ w.if-is_due.false) (λ s. refl) _ _ (before.told m each)
          ];
    }

pub end_each-requires-clause-active : goal.end_each-requires-clause-active
end_each-requires-clause-active c = each_found _ c.args.active.now c.entries_of-entries.result.now c.entries_of-entries.ensures (IsActiveOf c.args.ending.now.checked.now) c.requires.active

pub end_each-requires-clause-right : goal.end_each-requires-clause-right
end_each-requires-clause-right c =
    each_found _ c.args.active.now c.entries_of-entries.result.now c.entries_of-entries.ensures (IsResultRight c.args.ending.now.finished.now.entries c.args.ending.now.tenant c.args.ending.now.checked.now) c.requires.right

pub end_each-requires-clause-done : goal.end_each-requires-clause-done
end_each-requires-clause-done c =
    let items = c.args.active.now in
    let done = is_done c.args.ending.now.finished.now.entries c.args.ending.now.tenant c.args.ending.now.checked.now in
    let e = c.invocation-item.result in
    let before = c.loop-invocation.invariant in
    let now : (c.args.ending.now.time % e.interval == 0) ≡ true = ap (λ (t : ℕ). t % e.interval == 0) (sym before.time) ∙ sym c.is_due.ensures.due ∙ c.if-is_due.true in
    same_open e.task items c.entries_of-entries.result.now c.entries_of-entries.ensures done ∙ ap (λ b. b && is_task_open done items e.task) (sym now)
    ∙ not_here (is_left_open c.args.ending.now.time done items) c.args.invocations.now c.loop-invocation.invocation-index e c.loop-invocation-test.true c.invocation-item.is before.done

pub returns : goal.returns
returns c =
    let p = c.args.ending.now.checked.now in
    let active = map (active_of p) c.args.active.now in
    let none : (m : ModeDeclaration) → AreEach (IsInvocation p m) m.invocations c.args.invocations.now → drop c.loop-invocation.invocation-index m.invocations ≡ [] = λ m each.
    drop_all c.loop-invocation.invocation-index m.invocations (omega (arith, each_long (IsInvocation p m) m.invocations c.args.invocations.now each, c.loop-invocation-test.false)) in
    record {
      ended = λ m each. sym (ap (λ is. all_ended p (flat_map (group m c.args.ending.now.time active) is) (valuation_of p c.loop-invocation.values)) (none m each)) ∙ c.loop-invocation.invariant.value m each;
      noted = λ m each. sym (ap (λ is. ends_noted p c.args.ending.now.tick (flat_map (group m c.args.ending.now.time active) is) c.loop-invocation.trace) (none m each)) ∙ c.loop-invocation.invariant.told m each;
    }
