use Rattle.std.proofs.Common.{refl, rules, ◌≡◌, ◌<◌, [], Some, map, length, slice_get, slice_index_or, sym, subst, ap, ◌∙◌, arith}
use Rattle.std.specs.Arc.{arc_value}
use Rattle.std.specs.List.{AllByRecursion}
use Rattle.std.specs.Option.{option_map}
use Rattle.std.specs.Vec.{vec_items, with_items}
use Rattle.std.proofs.lemmas.List.{length-map}
use Rattle.std.proofs.lemmas.Option.{slice_get_within}
use Rattle.giotto_tasks.proofs.cited.ListLemmas.{all_map, whole_slice, some_same}
use Rattle.rig_model.specs.declared.text.programs.Mode.{Mode}
use Rattle.rig_model.specs.text.Program.{ModeDeclaration, GiottoProgram}
use Rattle.rig_model.specs.text.ProgramTrees.{mode_of}
use Rattle.tenant_slots.specs.well_formed.Slots.{valuation_of}
use Rattle.giotto_tasks.specs.Names.{Valuation}
use Rattle.rig_model.specs.Granted.{granted_along}
use Rattle.rig_model.specs.Readings.{Readings, readings_within}
use Rattle.tenant_slots.proofs.cited.Numbered.{mode_fits_at}
use Rattle.tenant_state.specs.Tenants.{active_of, standing_of}
use Rattle.tenant_state.specs.declared.tenants.State.TheVariants.{Running}
use Rattle.tenant_state.specs.cited.Standing.{IsSettled}
use Rattle.tenant_state.specs.inner.Invoked.{IsInvokedIn}
use Rattle.rig_model.specs.trace.cited.Noted.{noted}
use Rattle.tenant_state.specs.inner.Tenants.{AreInvoked, IsActiveIn, IsActiveOf, IsSwitched, IsTraceOf, entry_happened}
use Rattle.tenant_state.proofs.Records.{trace_noted}
use Rattle.tenant_state.proofs.EndedTasks.{as_running, its_mode}
use Rattle.tenant_state.proofs.HalfStands.{sensed_ports, room_due, half_stands, half_released}
use Rattle.tenant_state.proofs.Invoked.{entered_invokes, tasks_wait}
use Rattle.tenant_state.proofs.SecondHalfSteps.{IsBehindSwitch, none_taken, one_taken}
use Rattle.tenant_state.proofs.TenantBehind.{active_later, mode_read, tenant_behind}
use Rattle.tenant_state.proofs.TenantFacts.{none_stand}
use Rattle.tenant_state.proofs.tenants.Tenant.go_on.Goals as goal
use Rattle.tenant_state.proofs.tenants.Tenant.go_on.Goals.{in-Some-switch, in_default-switch, After-modes}

pub switch-requires : goal.switch-requires
switch-requires c =
    let p = c.in-Some.checked in
    let is = rw c.in-Some.is at c.self.invariant.0 in
    record {
      quiet = is.fits.quiet;
      values = omega (arith, c.read_sensors.auto.values, ap length c.as_mut_slice-values.ensures.value, is.fits.long);
      active = subst (λ xs. AllByRecursion (IsActiveOf p) xs) (sym c.as_slice-active.ensures) (all_map (IsActiveIn p c.self.inside.next_tick) (IsActiveOf p) c.self.inside.active.items (λ a is. is.declared) is.fits.each);
    }

module _ (c : After-modes) where
  abbrev readings : Readings
  readings = readings_within c.self.inside.budgets.reads c.args.frame.now

  abbrev granted : Valuation
  granted = granted_along c.self.inside.grants.binds c.args.granted.now

  settled : IsSettled (standing_of c.self.inside.budgets c.self.inside.grants Running (Some c.in-Some.checked) c.self.inside.mode c.self.inside.mode_time c.self.inside.active.items [] 0 c.self.inside.values.items [] c.self.inside.waiting c.self.inside.trace c.self.inside.next_tick).row
  settled = (rw (← c.self.view_is, c.in-Running.is, c.in-Some.is) at c.requires.settled) refl

  -- the mode before the switch
  its : (m : ModeDeclaration) × (slice_get c.in-Some.checked.modes c.self.inside.mode ≡ Some m)
  its = let is = rw c.in-Some.is at c.self.invariant.0 in its_mode c.in-Some.checked c.self.inside.mode is.fits.mode_there

  behind : IsBehindSwitch c.in-Some.checked its.0 c.self.inside.mode c.self.inside.mode_time (map (active_of c.in-Some.checked) c.self.inside.active.items)
      (sensed_ports c.in-Some.checked c.self.inside.values.items readings granted) c.match-switch.mode c.match-switch.time c.match-switch.next c.switch.new.values c.self.inside.next_tick c.self.inside.trace c.switch.new.trace
  behind =
      let p = c.in-Some.checked in
      let s = c.self.inside in
      let is = rw c.in-Some.is at c.self.invariant.0 in
      let sensed = c.read_sensors.ensures.ports ∙ ap (λ zs. sensed_ports p zs readings granted) c.as_mut_slice-values.ensures.value in
      let active = subst (λ xs. IsSwitched p its.0 s.mode_time (map (active_of p) xs) (valuation_of p c.read_sensors.new.values) c.switch.result c.switch.new.values) c.as_slice-active.ensures (c.switch.ensures.switched its.0 its.1) in
      let switched = subst (λ ports. IsSwitched p its.0 s.mode_time (map (active_of p) s.active.items) ports c.switch.result c.switch.new.values) sensed active in
      elim c.match-switch.branch [
        | in-Some-switch w ↦
            let taken = subst (λ o. IsSwitched p its.0 s.mode_time (map (active_of p) s.active.items) (sensed_ports p s.values.items readings granted) o c.switch.new.values) w.in-Some-switch.is switched in
            one_taken p c.program.ensures.fits its.0 s.mode s.mode_time s.next_due _ _ _ s.next_tick s.trace w.in-Some-switch.entry _ _ _ _ (c.switch.ensures.noted ∙ ap (λ o. noted s.next_tick (entry_happened p o) s.trace) w.in-Some-switch.is) w.mode-is w.time-is w.next-is taken
        | in_default-switch w ↦
            let none = subst (λ o. IsSwitched p its.0 s.mode_time (map (active_of p) s.active.items) (sensed_ports p s.values.items readings granted) o c.switch.new.values) w.in_default-switch.is switched in
            none_taken p c.program.ensures.fits its.0 s.mode s.mode_time s.next_due _ _ _ s.next_tick s.trace _ _ _ _ ((c.switch.ensures.noted ∙ ap (λ o. noted s.next_tick (entry_happened p o) s.trace) w.in_default-switch.is)) w.mode-is w.time-is w.next-is its.1 is.fits.quiet is.short_time none
      ]

  -- the mode after the switch invokes the older tasks
  its_tasks : (m : ModeDeclaration) → slice_get c.in-Some.checked.modes c.match-switch.mode ≡ Some m → AllByRecursion (IsInvokedIn c.in-Some.checked m) c.self.inside.active.items
  its_tasks m there =
      let p = c.in-Some.checked in
      let s = c.self.inside in
      let run = as_running c.self.inside.waiting c.self.inside.trace c.self.view_is c.self.invariant.0 c.in-Running.is c.in-Some.is in
      elim c.match-switch.branch [
        | in-Some-switch w ↦
            let taken = subst (λ o. IsSwitched p its.0 s.mode_time (map (active_of p) c.as_slice-active.result.now) (valuation_of p c.read_sensors.new.values) o c.switch.new.values) w.in-Some-switch.is (c.switch.ensures.switched its.0 its.1) in
            entered_invokes p c.program.ensures.rules c.program.ensures.fits its.0 s.mode its.1 s.mode_time s.active.items _ _ w.in-Some-switch.entry _ taken c.match-switch.mode m w.mode-is there
            (run.fits.invoked its.0 its.1) (tasks_wait run c.program.ensures.fits c.requires.ended_due its.0 its.1)
        | in_default-switch w ↦ run.fits.invoked m (ap (slice_get p.modes) (sym w.mode-is) ∙ there)
      ]

pub invoke_due-requires : goal.invoke_due-requires
invoke_due-requires c =
    let s = c.self.inside in
    let p = c.in-Some.checked in
    let is = rw c.in-Some.is at c.self.invariant.0 in
    let room = rw (← c.self.view_is, c.in-Running.is, c.in-Some.is) at c.requires.room in
    let read = (goal.at.invoke_due-requires c).After-modes in
    let new = behind read in
    record {
      quiet = new.quiet;
      values = omega (arith, c.switch.auto.values, c.read_sensors.auto.values, ap length c.as_mut_slice-values.ensures.value, is.fits.long);
      room = room_due s.budgets s.grants p c.program.ensures.fits (its read).0 s.mode s.mode_time s.next_tick s.active.room s.active.items s.active.ended s.values.items [] s.waiting s.trace (its read).1 c.match-switch.mode c.match-switch.time c.match-switch.next (readings read) (granted read) c.switch.new.values c.switch.new.trace new (settled read) room;
      each = active_later p s.next_tick s.active.items is.fits.each;
      rest = none_stand p s.active.ended (rw (← c.self.view_is, c.in-Some.is) at c.requires.rest);
    }

pub overflow_add-behind : goal.overflow_add-behind
overflow_add-behind c = let new = behind (goal.at.overflow_add-behind c).After-modes in omega (arith, new.short)

-- the mode exists where the code reads it
within : (c : After-modes) → c.match-switch.mode < length c.modes.result.now
within c =
    let p = c.in-Some.checked in
    let new = behind c in
    omega (arith, slice_get_within p.modes c.match-switch.mode new.new new.there, ap length (c.modes.ensures ∙ ap (λ (p : GiottoProgram). p.modes) c.program.ensures.tree), length-map c.modes.result.now mode_of)

pub offset_bounds-modes-mode : goal.offset_bounds-modes-mode
offset_bounds-modes-mode c = let lt : c.match-switch.mode < length c.modes.result.now = within (goal.at.offset_bounds-modes-mode c).After-modes in search rules

pub bounds-modes-mode : goal.bounds-modes-mode
bounds-modes-mode c = within (goal.at.bounds-modes-mode c).After-modes

pub bounds-modes-mode-after-switch : goal.bounds-modes-mode-after-switch
bounds-modes-mode-after-switch c = within (goal.at.bounds-modes-mode-after-switch c).After-modes

-- the period that the code reads is that of the mode there
lasts : (c : After-modes) (d : Mode) → (slice_index_or c.modes.result.now c.match-switch.mode d).period ≡ (behind c).new.period
lasts c d =
    let p = c.in-Some.checked in
    let new = behind c in
    let read = mode_read p c.program.ensures.fits c.match-switch.mode c.modes.result.now d (c.modes.ensures ∙ ap (λ (p : GiottoProgram). p.modes) c.program.ensures.tree) (slice_get_within p.modes c.match-switch.mode new.new new.there) in
    ap (λ (m : ModeDeclaration). m.period) (some_same (mode_of (slice_index_or c.modes.result.now c.match-switch.mode d)) new.new (sym read ∙ new.there))

pub nonzero_rem-behind : goal.nonzero_rem-behind
nonzero_rem-behind c =
    let read = (goal.at.nonzero_rem-behind c).After-modes in
    let new = behind read in
    omega (arith, lasts read c.index-modes-mode.result, (mode_fits_at c.in-Some.checked c.program.ensures.fits c.match-switch.mode new.new new.there).positive)

module _ (c : goal.After-self-6-1) where
  abbrev read : After-modes
  read = (goal.at.invariant_of-self-2 c).After-modes

  happened : AreInvoked c.in-Some.checked (behind read).new c.match-switch.time c.self.inside.next_tick (valuation_of c.in-Some.checked c.switch.new.values)
      c.self.inside.active.items c.invoke_due.new.active.items (vec_items (with_items c.self.inside.values c.invoke_due.new.values))
  happened =
      let whole : vec_items (with_items c.self.inside.values c.invoke_due.new.values) ≡ c.invoke_due.new.values =
      whole_slice c.self.inside.values.len c.invoke_due.new.values c.self.inside.values.items
      (omega (arith, c.invoke_due.auto.values, c.switch.auto.values, c.read_sensors.auto.values, ap length c.as_mut_slice-values.ensures.value, c.self.inside.values.ok.0)) in
      rw whole (c.invoke_due.ensures.invoked (behind read).new (behind read).there)

pub invariant_of-self-2 : goal.invariant_of-self-2
invariant_of-self-2 c =
    let s = c.self.inside in
    let p = c.in-Some.checked in
    let is = rw (c.in-Some.is, c.in-Running.is) at c.self.invariant.0 in
    let new = behind (read c) in
    let none = none_stand p s.active.ended (rw (← c.self.view_is, c.in-Some.is) at c.requires.rest) in
    (rw (c.in-Some.is, c.in-Running.is, c.invoke_due.ensures.rest, ← none) (tenant_behind p c.program.ensures.fits c.match-switch.mode new.new new.there s.mode s.mode_time c.match-switch.time c.match-switch.next s.next_due _ _ s.next_tick _ _ _ _ _ _ _ (lasts (read c) c.index-modes-mode.result) is (happened c) new.quiet c.due_after-self-inside.ensures (its_tasks (read c) new.new new.there)), subst (IsTraceOf s.budgets.trace) (sym new.noted) (trace_noted s.budgets.trace s.next_tick new.happened s.trace c.self.invariant.1), c.self.invariant.2)

pub returns-clause-half : goal.returns-clause-half
returns-clause-half c = record {
  step = let s = c.self.inside in
      let p = c.in-Some.checked in
      let new = behind (read c) in
      rw (← c.self.view_is, c.in-Running.is, c.in-Some.is)
      (half_stands s.budgets s.grants p c.program.ensures.fits (its (read c)).0 s.mode s.mode_time s.next_tick s.active.room s.active.items s.active.ended s.values.items (map (option_map arc_value) s.shares.items) s.waiting s.trace (its (read c)).1
      c.match-switch.mode c.match-switch.time c.match-switch.next (readings (read c)) (granted (read c)) c.switch.new.values c.switch.new.trace new _ c.invoke_due.new.active.room (lasts (read c) c.index-modes-mode.result) _ _ (happened c) (settled (read c)) c.self.invariant.1.same_most);
  next_tick = search rules;
  tenancy = search rules;
  program = search rules;
  offers = search rules;
  binds = search rules;
  ended = search rules;
}

pub returns-clause-released : goal.returns-clause-released
returns-clause-released c =
    let s = c.self.inside in
    let p = c.in-Some.checked in
    let new = behind (read c) in
    rw (← c.self.view_is, c.in-Running.is, c.in-Some.is)
    (half_released s.budgets s.grants p c.program.ensures.fits (its (read c)).0 s.mode s.mode_time s.next_tick 0 s.active.items s.active.ended s.values.items [] s.waiting s.trace (its (read c)).1
    c.match-switch.mode c.match-switch.time c.match-switch.next (readings (read c)) (granted (read c)) c.switch.new.values c.switch.new.trace new _ 0 (lasts (read c) c.index-modes-mode.result) _ _ (happened c) (settled (read c)))
