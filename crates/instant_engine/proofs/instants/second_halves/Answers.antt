use Rattle.std.proofs.Common.{◌≡◌, ◌+◌, ◌-◌, ◌<◌, ◌≤◌, take, false, cond, length, length-drop, drop, get_or, Some, None, refl, ap, sym, subst, ◌∙◌, arith}
use borrow.Rule.Slice.PartMut.{put_mid, put_same}
use Rattle.std.specs.List.{AllByRecursion}
use Rattle.tenant_state.specs.job_table.Finished.{entry_in}
use Rattle.tenant_state.specs.job_table.cited.Finished.{is_entered}
use Rattle.rig_model.specs.Jobs.{has_job, job_of}
use Rattle.rig_model.specs.FirstHalf.{due_tasks}
use Rattle.rig_model.specs.Row.{ActiveTask}
use Rattle.tenant_state.specs.Standing.{IsKnown, Standing, no_tenant}
use Rattle.rig_model.specs.Tenancies.{Tenancy}
use Rattle.tenant_state.specs.cited.Standing.{HasRoom}
use Rattle.tenant_state.specs.cited.Halves.{IsSecondHalf}
use Rattle.instant_engine.specs.Tenants.{tenant_at}
use Rattle.instant_engine.specs.cited.Tenants.{granted_at}
use Rattle.instant_engine.proofs.Entered.{entered_none, entered_more, entered_all, not_yet}
use Rattle.instant_engine.proofs.cited.Loops.{binds_more, binds_within, stepped_more, stepped_none, stepped_all, unstepped, most_left}
use Rattle.instant_engine.proofs.instants.second_halves.Goals as goal

pub loop-i-init : goal.loop-i-init
loop-i-init c = record { first = refl; same = refl; halves = stepped_none _ c.args.tenants.now; space = c.requires.room; entered = entered_none c.args.tenants.now c.args.finished.now.entries }

pub second_half-requires : goal.second_half-requires
second_half-requires c =
    let inside : c.loop-i.i < length c.args.tenants.now = omega (arith, c.loop-i-test.true) in
    let here = unstepped _ c.loop-i.i c.args.tenants.now c.loop-i.tenants c.index-tenants-i.result inside c.loop-i.invariant.halves in
    record {
      rest = ap (λ (s : Standing). s.ready.ended) here ∙ c.requires.rest c.loop-i.i no_tenant inside;
      ended_due = ap (λ (s : Standing). due_tasks s.row) here ∙ c.requires.ended_due c.loop-i.i no_tenant inside;
      next_tick = omega (arith, ap (λ (s : Standing). s.row.next_tick) here, c.requires.counts c.loop-i.i no_tenant inside);
      room = subst HasRoom (sym here) (c.requires.ready c.loop-i.i no_tenant inside).room;
    }

pub enter-requires : goal.enter-requires
enter-requires c =
    let d : Standing = c.index-tenants-i.result in
    let x : Standing = get_or c.loop-i.tenants c.loop-i.i d in
    let s : Standing = c.second_half.new.self in
    let inside : c.loop-i.i < length c.args.tenants.now = omega (arith, c.loop-i-test.true) in
    let here : x ≡ tenant_at c.args.tenants.now c.loop-i.i = unstepped _ c.loop-i.i c.args.tenants.now c.loop-i.tenants d inside c.loop-i.invariant.halves in
    record {
      room = omega (
        arith,
        c.active-before.ensures,
        c.loop-i.invariant.space,
        most_left _ c.loop-i.i c.args.tenants.now c.loop-i.tenants d inside c.loop-i.invariant.halves,
        length-drop c.active-before.result s.row.active,
        c.second_half.ensures.released.few,
      );
      new = subst (λ k. AllByRecursion (λ (a : ActiveTask). is_entered c.loop-i.finished.entries (job_of s.tenancy.owner.place a) ≡ false) (drop k s.row.active)) (sym c.active-before.ensures)
          (not_yet c.loop-i.i c.args.tenants.now c.loop-i.tenants x s c.args.finished.now.entries c.loop-i.finished.entries inside here (ap (λ (s : Standing). s.tenancy.owner.place) here ∙ c.requires.placed c.loop-i.i inside)
          (ap (λ (y : Tenancy). y.owner.place) c.second_half.ensures.half.tenancy) c.second_half.ensures.released c.requires.new c.loop-i.invariant.entered);
    }

pub slice_bounds-second_half-end : goal.slice_bounds-second_half-end
slice_bounds-second_half-end c =
    let inside : c.loop-i.i < length c.args.tenants.now = omega (arith, c.loop-i-test.true) in
    omega (
      arith,
      c.loop-i.invariant.first,
      c.bind_count.ensures,
      binds_more _ c.loop-i.i c.args.tenants.now c.loop-i.tenants c.index-tenants-i.result inside c.loop-i.invariant.halves,
      binds_within (c.loop-i.i + 1) c.args.tenants.now,
      ap length c.loop-i.invariant.same,
      c.requires.places,
    )

pub loop-i-preserved : goal.loop-i-preserved
loop-i-preserved c =
    let d : Standing = c.index-tenants-i.result in
    let x : Standing = get_or c.loop-i.tenants c.loop-i.i d in
    let s : Standing = c.second_half.new.self in
    let inside : c.loop-i.i < length c.args.tenants.now = omega (arith, c.loop-i-test.true) in
    let within : c.loop-i.i < length c.loop-i.tenants = omega (arith, inside, c.loop-i.invariant.halves.as_many) in
    let here : x ≡ tenant_at c.args.tenants.now c.loop-i.i = unstepped _ c.loop-i.i c.args.tenants.now c.loop-i.tenants d inside c.loop-i.invariant.halves in
    let known : IsKnown s.tenancy s.row = subst (λ (y : Standing). IsKnown y.tenancy y.row) c.enter.ensures.same c.known.ensures.row in
    let its_grants : take (c.loop-i.first + c.bind_count.result - c.loop-i.first) (drop c.loop-i.first c.loop-i.granted) ≡ granted_at c.args.tenants.now c.loop-i.i c.args.granted.now =
    let many : c.loop-i.first + c.bind_count.result - c.loop-i.first ≡ length (tenant_at c.args.tenants.now c.loop-i.i).row.binds = omega (arith, c.bind_count.ensures, ap (λ (y : Standing). length y.row.binds) here) in
    λ k. take (many k) (drop (c.loop-i.invariant.first k) (c.loop-i.invariant.same k)) in
    record {
      first = omega (arith, c.loop-i.invariant.first, c.bind_count.ensures, binds_more _ c.loop-i.i c.args.tenants.now c.loop-i.tenants d inside c.loop-i.invariant.halves);
      same = ap (put_mid c.loop-i.first (c.loop-i.first + c.bind_count.result - c.loop-i.first) c.loop-i.granted) c.second_half.ensures.granted
          ∙ put_same c.loop-i.first (c.loop-i.first + c.bind_count.result - c.loop-i.first) c.loop-i.granted ∙ c.loop-i.invariant.same;
      halves = rw (c.enter.ensures.same)
          (stepped_more _ c.loop-i.i c.args.tenants.now c.loop-i.tenants d s inside c.loop-i.invariant.halves
          (record { half = subst (λ zs. IsSecondHalf c.args.frame.now zs (get_or c.loop-i.tenants c.loop-i.i d) c.second_half.new.self) its_grants c.second_half.ensures.half; released = c.second_half.ensures.released; few = c.second_half.ensures.few; shared = c.second_half.ensures.shared; known = known; binds = subst (λ (y : Standing). length y.row.binds ≤ y.tenancy.owner.most_binds) c.enter.ensures.same c.known.ensures.binds }));
      space = omega (
        arith,
        c.active-before.ensures,
        c.loop-i.invariant.space,
        most_left _ c.loop-i.i c.args.tenants.now c.loop-i.tenants d inside c.loop-i.invariant.halves,
        length-drop c.active-before.result s.row.active,
        c.second_half.ensures.released.few,
        c.enter.ensures.room,
      );
      entered = rw (c.enter.ensures.same)
          (entered_more c.loop-i.i c.args.tenants.now c.loop-i.tenants x s c.args.finished.now.entries c.loop-i.finished.entries c.enter.new.finished.entries within here
          (ap (λ (s : Standing). s.tenancy.owner.place) here ∙ c.requires.placed c.loop-i.i inside) (ap (λ (y : Tenancy). y.owner.place) c.second_half.ensures.half.tenancy)
          (λ j. c.enter.ensures.entries j
          ∙ ap (λ k. cond (has_job s.tenancy.owner.place (drop k s.row.active) j) (Some (record { id = j; result = None })) (entry_in c.loop-i.finished.entries j)) c.active-before.ensures) c.loop-i.invariant.entered);
    }

pub returns-clause-halves : goal.returns-clause-halves
returns-clause-halves c = stepped_all _ c.loop-i.i c.args.tenants.now c.loop-i.tenants (omega (arith, c.loop-i-test.false)) c.loop-i.invariant.halves

pub returns-clause-entries : goal.returns-clause-entries
returns-clause-entries c =
    entered_all c.loop-i.i c.args.tenants.now c.loop-i.tenants c.args.finished.now.entries c.loop-i.finished.entries (omega (arith, c.loop-i-test.false, c.loop-i.invariant.halves.as_many)) c.loop-i.invariant.entered
