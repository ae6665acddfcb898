use Rattle.std.proofs.Common.{◌≡◌, ℕ, ◌<◌, ◌%◌, ◌==◌, true, false, ap, sym, ◌∙◌, subst}
use Rattle.std.specs.Bool.{OnTrue}
use Rattle.std.specs.List.{AllByRecursion}
use Rattle.std.specs.Option.{option_map}
use Rattle.std.proofs.lemmas.Bool.{and_from, and_left, and_right}
use Rattle.std.proofs.lemmas.List.{drop_more}
use Rattle.giotto_tasks.proofs.cited.ListLemmas.{all_map}
use Rattle.giotto_check.specs.declared.timetables.SlotInvocation.{SlotInvocation}
use Rattle.tenant_jobs.specs.Finished.{has_result}
use Rattle.tenant_jobs.specs.cited.Finished.{is_entered}
use Rattle.rig_model.specs.declared.jobs.JobId.{JobId}
use Rattle.rig_model.specs.Jobs.{job_of}
use Rattle.tenant_state.specs.Tenants.{active_of}
use Rattle.tenant_state.specs.inner.Tenants.{IsActiveOf, is_done}
use Rattle.tenant_state.proofs.EndedTasks.{all_closed, found_from}
use Rattle.tenant_state.specs.inner.EntryTable.{is_left_open}
use Rattle.tenant_state.proofs.EntryTables.{each_found, same_open}
use Rattle.tenant_state.proofs.tenants.phase_one.first_unfinished.Goals as goal
use Rattle.tenant_state.proofs.tenants.phase_one.first_unfinished.Goals.{else-is_due-via-then-is_due+else-is_unfinished, else-is_due-via-else-is_due}

pub returns-then-is_complete : goal.returns-then-is_complete
returns-then-is_complete c =
    let entries = c.args.ending.now.finished.now.entries in
    let p = c.args.ending.now.checked.now in
    let complete = subst (λ b. OnTrue b ((j : JobId) → has_result entries j ≡ is_entered entries j)) c.if-is_complete.true c.is_complete.ensures.each in
    let all = all_map _ (λ a. is_done entries c.args.ending.now.tenant p a ≡ true) c.args.active.now (λ a entered. complete (job_of c.args.ending.now.tenant (active_of p a)) ∙ entered) c.requires.entered in
    sym (ap (option_map (λ (i : SlotInvocation). i.task)) (all_closed c.args.ending.now.time (is_done entries c.args.ending.now.tenant p) c.args.active.now all c.args.invocations.now))

pub is_unfinished-requires : goal.is_unfinished-requires
is_unfinished-requires c = each_found _ c.args.active.now c.entries_of-entries.result.now c.entries_of-entries.ensures (IsActiveOf c.args.ending.now.checked.now) c.requires.active

pub returns-then-is_unfinished : goal.returns-then-is_unfinished
returns-then-is_unfinished c =
    let e = c.invocation-item.result in
    let done = is_done c.args.ending.now.finished.now.entries c.args.ending.now.tenant c.args.ending.now.checked.now in
    let now : (c.args.ending.now.time % e.interval == 0) ≡ c.is_due.result = ap (λ (t : ℕ). t % e.interval == 0) (sym c.loop-invocation.invariant.time) ∙ sym c.is_due.ensures.due in
    let here = found_from (is_left_open c.args.ending.now.time done c.args.active.now) c.args.invocations.now c.loop-invocation.invocation-index e true c.loop-invocation-test.true c.invocation-item.is
    (and_from _ _ (now ∙ c.if-is_due.true) (sym (same_open e.task c.args.active.now c.entries_of-entries.result.now c.entries_of-entries.ensures done) ∙ sym c.is_unfinished.ensures ∙ c.if-is_unfinished.true)) in
    ap (option_map (λ (i : SlotInvocation). i.task)) (sym here ∙ c.loop-invocation.invariant.left)

pub loop-invocation-preserved : goal.loop-invocation-preserved
loop-invocation-preserved c =
    let e = c.invocation-item.result in
    let es = c.args.invocations.now in
    let k = c.loop-invocation.invocation-index in
    let done = is_done c.args.ending.now.finished.now.entries c.args.ending.now.tenant c.args.ending.now.checked.now in
    let now : (c.args.ending.now.time % e.interval == 0) ≡ c.is_due.result = ap (λ (t : ℕ). t % e.interval == 0) (sym c.loop-invocation.invariant.time) ∙ sym c.is_due.ensures.due in
    let closed : is_left_open c.args.ending.now.time done c.args.active.now e ≡ false = elim c.else-is_due.branch [
      | else-is_due-via-then-is_due+else-is_unfinished w ↦ and_right _ _ (sym (same_open e.task c.args.active.now c.entries_of-entries.result.now c.entries_of-entries.ensures done) ∙ sym w.is_unfinished.ensures ∙ w.if-is_unfinished.false)
      | else-is_due-via-else-is_due w ↦ and_left _ _ (now ∙ w.if-is_due.false)
    ] in
    record {
      time = c.is_due.ensures.time ∙ c.loop-invocation.invariant.time;
      positive = (subst (AllByRecursion (λ (i : SlotInvocation). 0 < i.interval)) (drop_more es k e c.loop-invocation-test.true) c.loop-invocation.invariant.positive).1;
      left = sym (found_from (is_left_open c.args.ending.now.time done c.args.active.now) es k e false c.loop-invocation-test.true c.invocation-item.is closed) ∙ c.loop-invocation.invariant.left;
    }
