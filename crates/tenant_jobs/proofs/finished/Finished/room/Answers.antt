use Rattle.std.proofs.Common.{◌≡◌, ◌≤◌, ◌+◌, refl, arith, sym, subst, length}
use Rattle.std.proofs.lemmas.Result.{on_ok_weaker}
use Rattle.slab.specs.Slab.{values, slab_len}
use Rattle.tenant_jobs.specs.Finished.{TaskTable}
use Rattle.tenant_jobs.proofs.Slots.{length-values}
use Rattle.tenant_jobs.proofs.TableChanges.{with_room}
use Rattle.tenant_jobs.proofs.finished.Finished.room.Goals as goal

pub invariant_of-self : goal.invariant_of-self
invariant_of-self c =
    with_room c.self.inside.entries c.reserve.new.self c.self.inside.results _ _ _ _ c.reserve.ensures.rest_kept c.self.invariant (omega (arith, c.self.invariant.2, c.reserve.ensures.capacity)) c.self.invariant.3

pub invariant_of-self-in_err-reserve-2 : goal.invariant_of-self-in_err-reserve-2
invariant_of-self-in_err-reserve-2 c =
    with_room c.self.inside.entries c.reserve.new.self c.self.inside.results _ _ _ _ c.reserve.ensures.rest_kept c.self.invariant
    (omega (arith, c.self.invariant.2, c.reserve.ensures.capacity, c.reserve-2.ensures.len))
    (omega (arith, c.self.invariant.3, c.reserve-2.ensures.len, c.reserve-2.ensures.capacity))

pub invariant_of-self-2 : goal.invariant_of-self-2
invariant_of-self-2 c =
    let kept : slab_len c.reserve.new.self ≡ slab_len c.self.inside.entries = rw c.reserve.ensures.rest_kept refl in
    with_room c.self.inside.entries c.reserve.new.self c.self.inside.results _ _ _ _ c.reserve.ensures.rest_kept c.self.invariant
    (omega (arith, kept, c.in_ok-reserve.ensures.room, c.add_spare.ensures.bound))
    (omega (arith, c.add_spare.ensures.bound, c.add_spare.ensures.capacity, c.in_ok-reserve-2.ensures.ok, c.reserve-2.ensures.len, c.if-entries-len.false, c.len-spare.ensures, c.len.ensures, c.len-2.ensures))

pub returns-then-entries-len-clause-room : goal.returns-then-entries-len-clause-room
returns-then-entries-len-clause-room c = rw (← c.self.view_is) (omega (arith, c.if-entries-len.true, c.len-spare.ensures, c.len.ensures, length-values c.self.inside.entries))

pub returns-in_err-reserve-clause-never_refused : goal.returns-in_err-reserve-clause-never_refused
returns-in_err-reserve-clause-never_refused c enough =
    let room : c.args.entries ≤ length (values c.self.inside.entries) + length c.self.inside.spare.items = subst (λ (t : TaskTable). c.args.entries ≤ length t.entries + t.room) (sym c.self.view_is) enough in
    absurd (omega (arith, room, c.if-entries-len.false, c.len-spare.ensures, c.len.ensures, length-values c.self.inside.entries))

pub returns-in_err-reserve-2-clause-never_refused : goal.returns-in_err-reserve-2-clause-never_refused
returns-in_err-reserve-2-clause-never_refused c enough =
    let room : c.args.entries ≤ length (values c.self.inside.entries) + length c.self.inside.spare.items = subst (λ (t : TaskTable). c.args.entries ≤ length t.entries + t.room) (sym c.self.view_is) enough in
    absurd (omega (arith, room, c.if-entries-len.false, c.len-spare.ensures, c.len.ensures, length-values c.self.inside.entries))

pub returns-clause-room : goal.returns-clause-room
returns-clause-room c =
    let kept : slab_len c.reserve.new.self ≡ slab_len c.self.inside.entries = rw c.reserve.ensures.rest_kept refl in
    on_ok_weaker c.add_spare.result (λ all. omega (arith, all, kept, c.len-2.ensures, length-values c.reserve.new.self, c.if-entries-len.false, c.len.ensures)) c.add_spare.ensures.all

pub returns-clause-never_refused : goal.returns-clause-never_refused
returns-clause-never_refused c enough =
    let room : c.args.entries ≤ length (values c.self.inside.entries) + length c.self.inside.spare.items = subst (λ (t : TaskTable). c.args.entries ≤ length t.entries + t.room) (sym c.self.view_is) enough in
    absurd (omega (arith, room, c.if-entries-len.false, c.len-spare.ensures, c.len.ensures, length-values c.self.inside.entries))

pub returns-clause-had_room : goal.returns-clause-had_room
returns-clause-had_room c enough =
    let room : c.args.entries ≤ length (values c.self.inside.entries) + length c.self.inside.spare.items = subst (λ (t : TaskTable). c.args.entries ≤ length t.entries + t.room) (sym c.self.view_is) enough in
    absurd (omega (arith, room, c.if-entries-len.false, c.len-spare.ensures, c.len.ensures, length-values c.self.inside.entries))
