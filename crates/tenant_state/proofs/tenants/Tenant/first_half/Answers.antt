use Rattle.std.proofs.Common.{rules, ◌≡◌, ◌<◌, ◌≤◌, ◌++◌, true, map, filter, take, drop, length, Some, None, refl, sym, ap, subst, ◌∙◌, arith}
use Rattle.std.specs.Arc.{arc_value}
use Rattle.std.specs.List.{find, flat_map, AllByRecursion}
use Rattle.std.specs.Option.{option_map}
use Rattle.std.proofs.lemmas.Bool.{false≢true}
use Rattle.tenant_slots.specs.well_formed.Slots.{valuation_of}
use Rattle.giotto_check.specs.declared.timetables.SlotInvocation.{SlotInvocation}
use Rattle.giotto_tasks.proofs.cited.ListLemmas.{all_filter, filter_shorter, found_has, whole_slice}
use Rattle.giotto_tasks.proofs.cited.TestLemmas.{and_true}
use Rattle.tenant_jobs.specs.Finished.{has_result}
use Rattle.tenant_slots.specs.Places.{name_of_task}
use Rattle.tenant_slots.proofs.cited.Quiet.{invocations_positive}
use Rattle.rig_model.specs.FirstHalf.{all_ended, due_among, ends_happened}
use Rattle.rig_model.specs.Jobs.{job_of}
use Rattle.rig_model.specs.Row.{ActiveTask, is_running_state}
use Rattle.tenant_state.specs.Standing.{Standing, all_different_releases, most_released, with_last}
use Rattle.tenant_state.specs.Tenants.{active_of, ports_in, standing_of, state_of, tasks_in}
use Rattle.std.specs.Vec.{with_items}
use Rattle.tenant_state.proofs.Replaced.{released_as_before}
use Rattle.tenant_slots.specs.cited.Due.{is_among_due}
use Rattle.tenant_state.specs.inner.EntryTable.{ends_noted, is_left_open}
use Rattle.tenant_state.specs.cited.Halves.{first_half_by}
use Rattle.tenant_state.specs.inner.Invoked.{IsInvokedIn}
use Rattle.tenant_state.specs.inner.Tenants.{FitsProgram, FitsIts, IsActiveIn, IsActiveOf, IsTraceOf}
use Rattle.tenant_state.proofs.DueTasks.{group}
use Rattle.tenant_state.proofs.EndedTasks.{ends_are_noted, all_unmapped, as_running, different_filter, each_among, finished, halted, map_none, map_some, none_ended, quiet_stands, tasks_within, told_ended}
use Rattle.tenant_state.proofs.Records.{trace_noted}
use Rattle.tenant_state.proofs.Stops.{row_of}
use Rattle.rig_model.specs.Updates.{updates_happened}
use Rattle.rig_model.specs.trace.cited.Noted.{noted}
use Rattle.rig_model.proofs.of_trace.Kept.{noted_behind}
use Rattle.tenant_state.proofs.tenants.Tenant.first_half.Goals as goal

pub returns-then-time-self-clause-half : goal.returns-then-time-self-clause-half
returns-then-time-self-clause-half c = record {
  step = λ row st.
      let s = c.self.inside in
      let run = as_running c.self.inside.waiting c.self.inside.trace c.self.view_is c.self.invariant.0 c.in-Running.is c.in-Some.is in
      run.row ∙ quiet_stands s.grants c.in-Some.checked c.known.ensures.fits run.its s.mode s.mode_time s.active.items s.values.items s.waiting s.trace s.next_tick s.budgets.trace run.there
      (λ a. has_result c.args.finished.now.entries (job_of c.args.self.now.tenancy.owner.place a)) row (sym run.row ∙ st ∙ ap (λ (t : Standing). with_last t.tenancy.budgets.trace row) (sym c.self.view_is)) (run.fits.quiet run.its run.there s.mode_time (omega arith) c.if-time-self.true)
      ∙ ap (λ (t : Standing). with_last t.tenancy.budgets.trace (first_half_by c.args.finished.now.entries c.args.self.now.tenancy.owner.place row)) c.self.view_is;
  next_tick = search rules;
  tenancy = search rules;
  program = search rules;
  offers = search rules;
  binds = search rules;
  ended = none_ended c.args.self.now c.requires.rest;
}

pub first_unfinished-requires-clause-positive : goal.first_unfinished-requires-clause-positive
first_unfinished-requires-clause-positive c =
    invocations_positive c.in-Some.checked c.known.ensures.fits c.self.inside.mode _ c.invocations-invocations.ensures.there c.invocations-invocations.ensures.none

pub first_unfinished-requires-clause-entered : goal.first_unfinished-requires-clause-entered
first_unfinished-requires-clause-entered c =
    let entered = rw (← c.self.view_is, c.in-Some.is) at c.requires.entries in
    rw (c.as_slice-active.ensures, c.own.ensures.place) (all_unmapped _ (active_of c.in-Some.checked) c.self.inside.active.items entered)

pub end_due-requires-clause-right : goal.end_due-requires-clause-right
end_due-requires-clause-right c =
    let right = rw (← c.self.view_is, c.in-Some.is) at c.requires.results in
    rw (c.as_slice-active.ensures, c.own.ensures.place) (all_unmapped _ (active_of c.in-Some.checked) c.self.inside.active.items (right c.in-Some.checked refl))

pub drop_due-requires : goal.drop_due-requires
drop_due-requires c = record {
  positive = invocations_positive c.in-Some.checked c.known.ensures.fits c.self.inside.mode _ c.invocations-invocations.ensures.there c.invocations-invocations.ensures.none;
}

pub end_due-requires-clause-positive : goal.end_due-requires-clause-positive
end_due-requires-clause-positive c =
    invocations_positive c.in-Some.checked c.known.ensures.fits c.self.inside.mode _ c.invocations-invocations.ensures.there c.invocations-invocations.ensures.none

pub end_due-requires-clause-there : goal.end_due-requires-clause-there
end_due-requires-clause-there c =
    let run = as_running c.self.inside.waiting c.self.inside.trace c.self.view_is c.self.invariant.0 c.in-Running.is c.in-Some.is in
    tasks_within c.in-Some.checked run.its run.its.invocations _ (c.invocations-invocations.ensures.there run.its run.there)

pub first_unfinished-requires-clause-active : goal.first_unfinished-requires-clause-active
first_unfinished-requires-clause-active c =
    let run = as_running c.self.inside.waiting c.self.inside.trace c.self.view_is c.self.invariant.0 c.in-Running.is c.in-Some.is in
    subst (AllByRecursion (IsActiveOf c.in-Some.checked)) (sym c.as_slice-active.ensures) run.declared

pub end_due-requires-clause-active : goal.end_due-requires-clause-active
end_due-requires-clause-active c =
    let run = as_running c.self.inside.waiting c.self.inside.trace c.self.view_is c.self.invariant.0 c.in-Running.is c.in-Some.is in
    subst (AllByRecursion (IsActiveOf c.in-Some.checked)) (sym c.as_slice-active.ensures) run.declared

pub task_name-name-requires : goal.task_name-name-requires
task_name-name-requires c =
    let p = c.in-Some.checked in
    let run = as_running c.self.inside.waiting c.self.inside.trace c.self.view_is c.self.invariant.0 c.in-Running.is c.in-Some.is in
    let some = map_some (λ (i : SlotInvocation). i.task) _ c.in-Some-first_unfinished.task (rw c.own.ensures.place at c.in-Some-first_unfinished.ensures) in
    let there = tasks_within p run.its run.its.invocations _ (c.invocations-invocations.ensures.there run.its run.there) in
    let within = found_has (λ (e : SlotInvocation). e.task < length p.tasks) _ _ some.0 there some.1 in
    subst (λ k. k < length p.tasks) some.2 within

pub returns-in-Some-first_unfinished-clause-half : goal.returns-in-Some-first_unfinished-clause-half
returns-in-Some-first_unfinished-clause-half c = record {
  step = λ row st.
      let s = c.self.inside in
      let p = c.in-Some.checked in
      let completed = λ (a : ActiveTask). has_result c.args.finished.now.entries (job_of s.grants.owner.place a) in
      let run = as_running c.self.inside.waiting c.self.inside.trace c.self.view_is c.self.invariant.0 c.in-Running.is c.in-Some.is in
      let some = map_some (λ (i : SlotInvocation). i.task) _ c.in-Some-first_unfinished.task (rw c.own.ensures.place at c.in-Some-first_unfinished.ensures) in
      let first = subst (λ acts. find (is_left_open s.mode_time (λ a. completed (active_of p a)) acts) c.invocations-invocations.result.now ≡ Some some.0) c.as_slice-active.ensures some.1 in
      let name : c.task_name-name.result ≡ name_of_task p some.0.task = c.task_name-name.ensures ∙ ap (name_of_task p) (sym some.2) in
      c.stop_with.ensures.step row st ∙ ap (with_last c.stop_with.new.self.tenancy.budgets.trace) (sym
      (halted s.grants p c.known.ensures.fits run.its s.mode s.mode_time s.active.items s.values.items s.waiting s.trace s.next_tick s.budgets.trace run.there completed row (sym run.row ∙ st ∙ ap (λ (t : Standing). with_last t.tenancy.budgets.trace row) (sym c.self.view_is))
      c.invocations-invocations.result.now (c.invocations-invocations.ensures.there run.its run.there) run.declared some.0 first c.task_name-name.result name))
      ∙ ap (λ (t : Standing). with_last c.stop_with.new.self.tenancy.budgets.trace (first_half_by c.args.finished.now.entries t.tenancy.owner.place row)) c.self.view_is;
  next_tick = search rules;
  tenancy = search rules;
  program = search rules;
  offers = search rules;
  binds = search rules;
  ended = λ j. rw (c.stop_with.ensures.tenancy, c.stop_with.ensures.ended, c.stop_with.ensures.active) (sym (and_true _));
}

pub invariant_of-self : goal.invariant_of-self
invariant_of-self c =
    let s = c.self.inside in
    let p = c.in-Some.checked in
    let shares = map (option_map arc_value) s.shares.items in
    let run = as_running c.self.inside.waiting c.self.inside.trace c.self.view_is c.self.invariant.0 c.in-Running.is c.in-Some.is in
    let fits = run.fits in
    let now = c.drop_due.new.active in
    let es = c.invocations-invocations.result.now in
    let written = whole_slice s.values.len c.update_due.new.values s.values.items (omega (arith, c.as_mut_slice-values.ensures.len, c.end_due.auto.values, c.update_due.auto.values)) in
    let began = ap length c.as_mut_slice-values.ensures.value in
    let different : all_different_releases (map (active_of p) now.items) ≡ true =
    subst (λ acts. all_different_releases (map (active_of p) acts) ≡ true) (sym c.drop_due.ensures.items)
    (different_filter p _ s.active.items (subst (λ o. all_different_releases (tasks_in o s.active.items) ≡ true) c.in-Some.is c.self.invariant.0.different)) in
    let fits_now : FitsProgram p s.mode s.mode_time s.next_due now.items now.ended c.update_due.new.values shares s.next_tick = record {
      long = c.update_due.auto.values ∙ c.end_due.auto.values ∙ began ∙ fits.long;
      mode_there = fits.mode_there;
      quiet = fits.quiet;
      each = subst (AllByRecursion (IsActiveIn p s.next_tick)) (sym c.drop_due.ensures.items) (all_filter (IsActiveIn p s.next_tick) _ s.active.items fits.each);
      invoked = λ m at. subst (AllByRecursion (IsInvokedIn p m)) (sym c.drop_due.ensures.items) (all_filter (IsInvokedIn p m) _ s.active.items (fits.invoked m at));
      each_ended = each_among p (filter (λ a. is_among_due s.mode_time a.task es) s.active.items) now.ended c.drop_due.ensures.ended (all_filter (IsActiveOf p) _ s.active.items run.declared);
      share_each = fits.share_each;
    } in
    let gone = due_among (map (active_of p) c.as_slice-active.result.now) run.its s.mode_time in
    let told_trace : IsTraceOf s.budgets.trace c.update_due.new.trace =
    subst (IsTraceOf s.budgets.trace) (sym (c.update_due.ensures.noted run.its run.there))
    (trace_noted s.budgets.trace s.next_tick (updates_happened run.its s.mode_time run.its.updates (valuation_of p c.end_due.new.values)) c.end_due.new.trace
    (subst (IsTraceOf s.budgets.trace) (sym (c.end_due.ensures.noted run.its (c.invocations-invocations.ensures.there run.its run.there) ∙ ends_are_noted p s.next_tick gone s.trace))
    (trace_noted s.budgets.trace s.next_tick (ends_happened p gone) s.trace c.self.invariant.1))) in (
      record {
        short_time = c.self.invariant.0.short_time;
        rests = λ e. absurd (false≢true (sym e ∙ ap (λ t. is_running_state (state_of t)) c.in-Running.is));
        different = subst (λ o. all_different_releases (tasks_in o now.items) ≡ true) (sym c.in-Some.is) different;
        fits = subst (λ o. FitsIts o s.mode s.mode_time s.next_due now.items now.ended
            (take s.values.len (c.update_due.new.values ++ drop (length c.update_due.new.values) s.values.items)) shares s.next_tick) (sym c.in-Some.is)
            (subst (λ vs. FitsProgram p s.mode s.mode_time s.next_due now.items now.ended vs shares s.next_tick) (sym written) fits_now);
      },
      told_trace,
      c.self.invariant.2,
    )

pub returns-clause-half : goal.returns-clause-half
returns-clause-half c = record {
  step = λ row st.
      let s = c.self.inside in
      let p = c.in-Some.checked in
      let completed = λ (a : ActiveTask). has_result c.args.finished.now.entries (job_of s.grants.owner.place a) in
      let run = as_running c.self.inside.waiting c.self.inside.trace c.self.view_is c.self.invariant.0 c.in-Running.is c.in-Some.is in
      let es = c.invocations-invocations.result.now in
      let none = subst (λ acts. find (is_left_open s.mode_time (λ a. completed (active_of p a)) acts) es ≡ None) c.as_slice-active.ensures (map_none (λ (i : SlotInvocation). i.task) _ (rw c.own.ensures.place at c.in_default-first_unfinished.ensures)) in
      let written = whole_slice s.values.len c.update_due.new.values s.values.items (omega (arith, c.as_mut_slice-values.ensures.len, c.end_due.auto.values, c.update_due.auto.values)) in
      let each = c.invocations-invocations.ensures.there run.its run.there in
      let ended : valuation_of p c.end_due.new.values ≡ all_ended p (flat_map (group run.its s.mode_time (map (active_of p) s.active.items)) run.its.invocations) (valuation_of p s.values.items) =
      c.end_due.ensures.ended run.its each ∙ (λ k. all_ended p (flat_map (group run.its s.mode_time (map (active_of p) (c.as_slice-active.ensures k))) run.its.invocations) (valuation_of p (c.as_mut_slice-values.ensures.value k))) in
      let gone = flat_map (group run.its s.mode_time (map (active_of p) s.active.items)) run.its.invocations in
      let told : c.update_due.new.trace ≡ noted s.next_tick
      (ends_happened p (flat_map (group run.its s.mode_time (map (active_of p) s.active.items)) run.its.invocations) ++ updates_happened run.its s.mode_time run.its.updates (valuation_of p c.end_due.new.values)) s.trace =
      c.update_due.ensures.noted run.its run.there
      ∙ ap (noted s.next_tick (updates_happened run.its s.mode_time run.its.updates (valuation_of p c.end_due.new.values)))
      (c.end_due.ensures.noted run.its each ∙ (λ k. ends_noted p s.next_tick (flat_map (group run.its s.mode_time (map (active_of p) (c.as_slice-active.ensures k))) run.its.invocations) s.trace) ∙ ends_are_noted p s.next_tick gone s.trace)
      ∙ sym (noted_behind s.next_tick (ends_happened p gone) (updates_happened run.its s.mode_time run.its.updates (valuation_of p c.end_due.new.values)) s.trace) in
      (λ k. row_of s.grants (c.in-Running.is k) (c.in-Some.is k) s.mode s.mode_time (c.drop_due.ensures.items k) (written k) s.waiting c.update_due.new.trace s.next_tick)
      ∙ finished s.grants p c.known.ensures.fits run.its s.mode s.mode_time s.active.items s.values.items s.waiting s.trace s.next_tick s.budgets.trace run.there completed row (sym run.row ∙ st ∙ ap (λ (t : Standing). with_last t.tenancy.budgets.trace row) (sym c.self.view_is))
      es each run.declared c.self.invariant.1.same_most none c.end_due.new.values c.update_due.new.values c.update_due.new.trace ended (c.update_due.ensures.there run.its run.there) told
      ∙ ap (λ (t : Standing). with_last s.budgets.trace (first_half_by c.args.finished.now.entries t.tenancy.owner.place row)) c.self.view_is;
  next_tick = search rules;
  tenancy = search rules;
  program = search rules;
  offers = search rules;
  binds = search rules;
  ended = λ j.
      let s = c.self.inside in
      let p = c.in-Some.checked in
      let run = as_running c.self.inside.waiting c.self.inside.trace c.self.view_is c.self.invariant.0 c.in-Running.is c.in-Some.is in
      rw (← c.self.view_is, c.in-Some.is)
      (told_ended p c.known.ensures.fits run.its s.mode_time run.its.invocations _ (c.invocations-invocations.ensures.there run.its run.there) s.active.items run.declared s.grants.owner.place j _ _ c.drop_due.ensures.items c.drop_due.ensures.ended);
}

pub returns-clause-room : goal.returns-clause-room
returns-clause-room c =
    let s = c.self.inside in
    let was : c.args.self.now.ready.room ≡ s.active.room = sym (ap (λ (t : Standing). t.ready.room) c.self.view_is) in
    let fewer : length c.drop_due.new.active.items ≤ length s.active.items = subst (λ xs. length xs ≤ length s.active.items) (sym c.drop_due.ensures.items) (filter_shorter _ s.active.items) in
    omega (arith, was, fewer, c.drop_due.ensures.room)

pub returns-clause-fewer : goal.returns-clause-fewer
returns-clause-fewer c =
    let s = c.self.inside in
    let same = ap (λ (t : Standing). most_released t.row) c.self.view_is in
    let before = standing_of s.budgets s.grants s.state s.program s.mode s.mode_time s.active.items s.active.ended s.active.room s.values.items (map (option_map arc_value) s.shares.items) s.waiting s.trace s.next_tick in
    let kept = released_as_before before.row (tasks_in s.program c.drop_due.new.active.items) (ports_in s.program (with_items s.values c.update_due.new.values).items) c.update_due.new.trace.records in
    omega (arith, same, kept)
