use Rattle.std.proofs.Common.{◌≡◌, ◌<◌, ◌≤◌, map, length, set, get_or, refl, ap, ◌∙◌, arith}
use Rattle.std.proofs.lemmas.List.{length-map, set-get_or}
use Rattle.tenant_state.specs.ActiveTasks.{TaskList}
use Rattle.tenant_state.specs.Tenants.{active_of}
use Rattle.tenant_state.specs.inner.Tenants.{IsActiveOf}
use Rattle.tenant_state.proofs.Completing.{so_there, stands_there}
use Rattle.tenant_state.proofs.TaskEntries.{put_more, one_fewer, first_new, still_new, among_first}
use Rattle.tenant_state.proofs.tenants.entries.enter_each.Goals as goal
use Rattle.tenant_state.proofs.tenants.entries.enter_each.Goals.{After-index_mut}

-- the entry at the place is that of an active task
its : (c : After-index_mut) → (c.loop-place.place < length c.args.active.now.items) × (c.index_mut.result.now ≡ get_or c.args.active.now.items c.loop-place.place c.index_mut.result.now)
its c =
    let old = c.active.inside in
    let few : old.count ≤ length old.entries.items = omega (arith, c.active.invariant) in
    among_first old.entries.items c.args.active.now.items old.count c.loop-place.place c.index_mut.result.now (ap (λ (l : TaskList). l.items) c.active.view_is) c.loop-place-test.true few
    (c.index_mut.ensures.value ∙ ap (λ xs. get_or xs c.loop-place.place c.index_mut.result.now) c.loop-place.invariant.items)

module _ (c : After-index_mut) where
  lt : c.loop-place.place < length (map (active_of c.args.checked.now) c.args.active.now.items)
  lt = let here = (its c).0 in omega (arith, here, length-map c.args.active.now.items (active_of c.args.checked.now))

  at : active_of c.args.checked.now c.index_mut.result.now ≡ get_or (map (active_of c.args.checked.now) c.args.active.now.items) c.loop-place.place (active_of c.args.checked.now c.index_mut.result.now)
  at = stands_there c.args.checked.now c.args.active.now.items c.loop-place.place c.index_mut.result.now (its c).1

pub loop-place-init : goal.loop-place-init
loop-place-init c = record { items = refl; count = refl; ended = refl; entries = λ j. refl; new = c.requires.new; room = refl }

pub enter_one-requires-clause-active : goal.enter_one-requires-clause-active
enter_one-requires-clause-active c =
    let here = its (goal.at.enter_one-requires-clause-active c).After-index_mut in
    so_there c.args.active.now.items c.loop-place.place c.index_mut.result.now here.0 here.1 (IsActiveOf c.args.checked.now) c.requires.active

pub enter_one-requires-clause-room : goal.enter_one-requires-clause-room
enter_one-requires-clause-room c =
    let read = (goal.at.enter_one-requires-clause-room c).After-index_mut in
    let fewer = one_fewer c.args.tenant (map (active_of c.args.checked.now) c.args.active.now.items) c.loop-place.place (active_of c.args.checked.now c.index_mut.result.now) (lt read) (at read) in
    omega (arith, fewer, c.loop-place.invariant.room, c.requires.room)

pub enter_one-requires-clause-new : goal.enter_one-requires-clause-new
enter_one-requires-clause-new c =
    let read = (goal.at.enter_one-requires-clause-new c).After-index_mut in
    first_new c.args.tenant (map (active_of c.args.checked.now) c.args.active.now.items) c.loop-place.place (active_of c.args.checked.now c.index_mut.result.now) (lt read) (at read) c.loop-place.finished.entries c.loop-place.invariant.new

pub loop-place-preserved : goal.loop-place-preserved
loop-place-preserved c =
    let t = c.args.tenant in
    let tasks = map (active_of c.args.checked.now) c.args.active.now.items in
    let i = c.loop-place.place in
    let a = active_of c.args.checked.now c.index_mut.result.now in
    let read = (goal.at.loop-place-preserved c).After-index_mut in
    let now = c.loop-place.invariant in
    let fewer = one_fewer t tasks i a (lt read) (at read) in
    record {
      items = ap (set c.loop-place.active-inside.entries.items i) (c.enter_one.ensures.same ∙ c.index_mut.ensures.value) ∙ set-get_or c.loop-place.active-inside.entries.items i _ ∙ now.items;
      count = now.count;
      ended = now.ended;
      entries = λ j. put_more t tasks i a (lt read) (at read) _ _ _ j (c.enter_one.ensures.entries j) ∙ now.entries j;
      new = still_new t tasks i a (lt read) (at read) c.loop-place.finished.entries now.new c.enter_one.new.finished.entries c.requires.different c.enter_one.ensures.entries;
      room = omega (arith, now.room, fewer, c.enter_one.ensures.room);
    }
