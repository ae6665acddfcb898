use Rattle.std.proofs.Common.{◌≡◌, ℕ, true, ◌%◌, ◌==◌, [], Some, refl, map, ◌++◌, drop, slice_get, sym, ap, ◌∙◌, append-nil, arith}
use Rattle.std.proofs.lemmas.Bool.{and_from, and_left, and_right}
use Rattle.std.proofs.lemmas.List.{drop_all}
use Rattle.rig_model.specs.text.Program.{ModeDeclaration}
use Rattle.tenant_slots.specs.well_formed.cited.Timetables.{IsInvocation}
use Rattle.tenant_slots.proofs.of_well_formed.EachLemmas.{each_long}
use Rattle.tenant_slots.proofs.cited.Numbered.{invocation_due}
use Rattle.tenant_slots.specs.well_formed.Slots.{valuation_of}
use Rattle.tenant_state.specs.Tenants.{active_of}
use Rattle.tenant_state.proofs.HalfStands.{none_due}
use Rattle.tenant_state.proofs.Released.{its_entry, some_entry, left_as, its_room, waits, happens}
use Rattle.tenant_state.proofs.tenants.releases.invoke_due.Goals as goal
use Rattle.tenant_state.proofs.tenants.releases.invoke_due.Goals.{then-is_due+then-holds, else-is_due, else-is_due-via-then-is_due+else-holds, else-is_due-via-else-is_due}

pub loop-invocation-init : goal.loop-invocation-init
loop-invocation-init c = record {
  time = c.at-due.ensures;
  each = c.requires.each;
  rest = c.requires.rest;
  to = λ m at. record { tasks = refl; ports = refl; room = c.requires.room m at };
}

pub returns-then-time-next-clause-invoked : goal.returns-then-time-next-clause-invoked
returns-then-time-next-clause-invoked c m at =
    let p = c.args.checked.now in
    let still = none_due p m c.args.time c.args.release m.invocations (valuation_of p c.args.values.now) (c.requires.quiet m at c.args.time (omega arith) c.if-time-next.true).no_invocation in
    record {
      tasks = sym (ap (λ new. map (active_of p) c.args.active.now.items ++ new) still.0 ∙ append-nil _);
      ports = sym still.1;
      each = c.requires.each;
      long = c.requires.values;
    }

pub is_due-requires : goal.is_due-requires
is_due-requires c =
    (some_entry c.args.checked.now c.known.ensures.fits c.args.mode c.loop-invocation.invocation-index _ c.invocation-item.result c.loop-invocation-test.true c.invocation-item.is
    c.invocations-invocation-items.ensures.there c.invocations-invocation-items.ensures.none).2.positive

pub add_release-requires-clause-its : goal.add_release-requires-clause-its
add_release-requires-clause-its c =
    let its = some_entry c.args.checked.now c.known.ensures.fits c.args.mode c.loop-invocation.invocation-index _ c.invocation-item.result c.loop-invocation-test.true c.invocation-item.is
    c.invocations-invocation-items.ensures.there c.invocations-invocation-items.ensures.none in
    record { mode = its.0; invocation = its.2.invocation; task = its.2.task; is = its.2.is; there = its.2.there; as_many = its.2.arguments; few = its.2.few }

pub add_release-requires-clause-room : goal.add_release-requires-clause-room
add_release-requires-clause-room c =
    let its = some_entry c.args.checked.now c.known.ensures.fits c.args.mode c.loop-invocation.invocation-index _ c.invocation-item.result c.loop-invocation-test.true c.invocation-item.is
    c.invocations-invocation-items.ensures.there c.invocations-invocation-items.ensures.none in
    let now : (c.args.time % c.invocation-item.result.interval == 0) ≡ true = ap (λ (t : ℕ). t % c.invocation-item.result.interval == 0) (sym c.loop-invocation.invariant.time) ∙ sym c.is_due.ensures.due ∙ c.if-is_due.true in
    its_room (left_as its.2.here (c.loop-invocation.invariant.to its.0 its.1))
    (sym (invocation_due c.args.checked.now c.known.ensures.fits c.args.time its.0 its.2.invocation c.invocation-item.result its.2.is) ∙ now)

pub loop-invocation-preserved : goal.loop-invocation-preserved
loop-invocation-preserved c =
    let p = c.args.checked.now in
    let e = c.invocation-item.result in
    let long = c.loop-invocation.auto.values ∙ c.requires.values in
    let now : (c.args.time % e.interval == 0) ≡ c.is_due.result = ap (λ (t : ℕ). t % e.interval == 0) (sym c.loop-invocation.invariant.time) ∙ sym c.is_due.ensures.due in
    record {
      time = c.is_due.ensures.time ∙ c.loop-invocation.invariant.time;
      each = elim c.if-is_due.branch [
        | then-is_due+then-holds w ↦ rw (w.active-is) w.add_release.ensures.each
        | else-is_due w ↦ rw (w.active-is) c.loop-invocation.invariant.each
      ];
      rest = elim c.if-is_due.branch [
        | then-is_due+then-holds w ↦ rw (w.active-is) w.add_release.ensures.rest
        | else-is_due w ↦ rw (w.active-is) c.loop-invocation.invariant.rest
      ];
      to = λ m at.
          let its = its_entry p c.known.ensures.fits c.args.mode c.loop-invocation.invocation-index _ e c.loop-invocation-test.true c.invocation-item.is c.invocations-invocation-items.ensures.there m at in
          let due = sym (invocation_due p c.known.ensures.fits c.args.time m its.invocation e its.is) ∙ now in
          let to = left_as its.here (c.loop-invocation.invariant.to m at) in
          elim c.if-is_due.branch [
            | then-is_due+then-holds w ↦ rw (w.active-is, w.values-is)
                (happens to its.task (and_from _ _ (due ∙ w.if-is_due.true) (sym (w.holds.ensures p its.invocation.guard its.is.guard long) ∙ w.if-holds.true)) its.found
                (w.add_release.ensures.tasks m its.invocation its.task its.is its.there) (w.add_release.ensures.ports m its.invocation its.task its.is its.there) w.add_release.ensures.room)
            | else-is_due w ↦ rw (w.active-is, w.values-is)
                (waits to (elim w.else-is_due.branch [
                  | else-is_due-via-then-is_due+else-holds w' ↦ and_right _ _ (sym (w'.holds.ensures p its.invocation.guard its.is.guard long) ∙ w'.if-holds.false)
                  | else-is_due-via-else-is_due w' ↦ and_left _ _ (due ∙ w'.if-is_due.false)
                ]))
          ];
    }

pub returns-clause-invoked : goal.returns-clause-invoked
returns-clause-invoked c =
    let none : (m : ModeDeclaration) → slice_get c.args.checked.now.modes c.args.mode ≡ Some m → drop c.loop-invocation.invocation-index m.invocations ≡ [] = λ m at.
    let same = each_long (IsInvocation c.args.checked.now m) m.invocations _ (c.invocations-invocation-items.ensures.there m at) in
    drop_all c.loop-invocation.invocation-index m.invocations (omega (arith, same, c.loop-invocation-test.false)) in
    λ m at. let to = left_as (none m at) (c.loop-invocation.invariant.to m at) in record {
      tasks = sym (append-nil _) ∙ to.tasks;
      ports = to.ports;
      each = c.loop-invocation.invariant.each;
      long = c.loop-invocation.auto.values ∙ c.requires.values;
    }
