use Rattle.std.proofs.Common.{◌%◌, ◌==◌, ◌&&◌, nat_eq, sym, ap, ◌∙◌}
use Rattle.std.specs.List.{list_any}
use Rattle.giotto_check.specs.declared.timetables.SlotInvocation.{SlotInvocation}
use Rattle.giotto_tasks.proofs.cited.ListLemmas.{all_map}
use Rattle.tenant_slots.proofs.cited.Quiet.{invocations_positive}
use Rattle.tenant_state.specs.declared.tenants.Active.{Active}
use Rattle.tenant_state.specs.inner.Tenants.{IsActiveIn, IsActiveOf}
use Rattle.tenant_state.proofs.EndedTasks.{its_mode, map_none, map_some}
use Rattle.tenant_state.proofs.Readers.{due_by_place, not_due}
use Rattle.tenant_state.proofs.tenants.Tenant.due.Goals as goal

pub returns-in_default-active_place : goal.returns-in_default-active_place
returns-in_default-active_place c =
    let s = c.self.inside in
    let p = c.in-Some.checked in
    let known = rw c.in-Some.is at c.self.invariant.0 in
    let m = its_mode p s.mode known.fits.mode_there in
    let none = map_none (λ (a : Active). a.task) _ (rw c.as_slice.ensures at c.in_default-active_place.ensures) in
    rw (← c.self.view_is, c.in-Some.is, c.in-Running.is) (not_due p c.known.ensures.fits m.0 s.mode s.mode_time s.active.items m.1 c.args.task.now s.grants none)

pub ends_at-requires : goal.ends_at-requires
ends_at-requires c =
    invocations_positive c.in-Some.checked c.known.ensures.fits c.self.inside.mode _ c.invocations.ensures.there c.invocations.ensures.none

pub returns : goal.returns
returns c =
    let s = c.self.inside in
    let p = c.in-Some.checked in
    let known = rw c.in-Some.is at c.self.invariant.0 in
    let m = its_mode p s.mode known.fits.mode_there in
    let some = map_some (λ (a : Active). a.task) _ c.in-Some-active_place.place (rw c.as_slice.ensures at c.in-Some-active_place.ensures) in
    let here = ap (λ k. list_any (λ (e : SlotInvocation). nat_eq k e.task && (s.mode_time % e.interval == 0)) c.invocations.result.now) (sym some.2) in
    let all = all_map (IsActiveIn p s.next_tick) (IsActiveOf p) s.active.items (λ a is. is.declared) known.fits.each in
    rw (← c.self.view_is, c.in-Some.is, c.in-Running.is)
    (c.ends_at.ensures ∙ here ∙ due_by_place p c.known.ensures.fits m.0 s.mode s.mode_time s.active.items m.1 c.args.task.now s.grants all _ (c.invocations.ensures.there m.0 m.1) some.0 some.1)
