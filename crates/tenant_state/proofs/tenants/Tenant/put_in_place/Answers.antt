use Rattle.std.proofs.Common.{◌≡◌, is_some, length, [], ◌∷◌, None, Some, slice_get, sym, ap, subst, ◌∙◌, arith}
use Rattle.std.specs.Prelude.{IfSome}
use Rattle.std.specs.Arc.{arc_value}
use Rattle.std.specs.List.{AllByRecursion}
use Rattle.std.specs.Option.{option_map_or}
use Rattle.std.specs.Vec.{with_items}
use Rattle.std.proofs.lemmas.Bool.{and_from}
use Rattle.std.proofs.lemmas.List.{with_items_is}
use Rattle.std.proofs.lemmas.Option.{slice_get_within}
use Rattle.tenant_slots.specs.well_formed.cited.Slots.{slots_of}
use Rattle.tenant_slots.specs.well_formed.Slots.{valuation_of}
use Rattle.rig_model.specs.text.Program.{GiottoProgram, ModeDeclaration}
use Rattle.tenant_slots.specs.Places.{name_of_mode}
use Rattle.rig_model.specs.Replacement.{carried_ports}
use Rattle.tenant_slots.specs.cited.Replacement.{IsCarryTable}
use Rattle.rig_model.specs.declared.trace.records.Happening.TheVariants as happening
use Rattle.rig_model.specs.trace.cited.Noted.{noted}
use Rattle.tenant_state.specs.declared.tenants.waiting.Waiting.{Waiting}
use Rattle.rig_model.specs.Row.{is_running}
use Rattle.tenant_state.specs.Standing.{Standing, all_different_releases, with_last}
use Rattle.tenant_state.specs.Tenants.{is_shared, tasks_in}
use Rattle.tenant_state.specs.inner.Invoked.{IsInvokedIn}
use Rattle.tenant_state.specs.inner.Tenants.{FitsWaiting, IsActiveIn, IsActiveOf, IsTraceOf}
use Rattle.tenant_state.proofs.EndedTasks.{map_none, some_of}
use Rattle.tenant_state.proofs.Installed.{running_is, some_there}
use Rattle.tenant_state.proofs.Records.{trace_noted}
use Rattle.tenant_state.proofs.Replaced.{stands_installed}
use Rattle.tenant_state.proofs.Shares.{shared_map}
use Rattle.tenant_state.proofs.Stops.{row_of}
use Rattle.tenant_state.proofs.TenantFacts.{none_stand}
use Rattle.tenant_state.proofs.tenants.Tenant.put_in_place.Goals as goal

module _ (c : goal.After-drop-carried) where
  has : (p : GiottoProgram) × (c.self.inside.program ≡ Some p)
  has = some_there c.self.inside.program (ap (λ (t : Standing). is_some t.row.program) c.self.view_is ∙ c.requires.loaded)

  waits : c.self.inside.waiting ≡ None
  waits = map_none (λ (w : Waiting). w.program) c.self.inside.waiting (sym (ap (λ (t : Standing). t.row.waiting) c.self.view_is ∙ c.requires.waits))

  none : c.self.inside.active.items ≡ []
  none = none_stand has.0 c.self.inside.active.items (ap (λ o. tasks_in o c.self.inside.active.items) (sym has.1) ∙ ap (λ (t : Standing). t.row.active) c.self.view_is ∙ c.requires.none_active)

  none_ended : c.self.inside.active.ended ≡ []
  none_ended = none_stand has.0 c.self.inside.active.ended (ap (λ o. tasks_in o c.self.inside.active.ended) (sym has.1) ∙ ap (λ (t : Standing). t.ready.ended) c.self.view_is ∙ c.requires.rest)

  long : length c.carry_over.new.new_values ≡ slots_of c.args.waiting.program
  long = c.carry_over.auto.new_values ∙ ap length c.as_mut_slice.ensures.value ∙ c.requires.fits.begins.long

  written : (with_items c.args.waiting.beginning.values c.carry_over.new.new_values).items ≡ c.carry_over.new.new_values
  written = with_items_is c.args.waiting.beginning.values c.carry_over.new.new_values (c.carry_over.auto.new_values ∙ c.as_mut_slice.ensures.len)

  start : (m : ModeDeclaration) × (slice_get c.args.waiting.program.modes c.start_place-mode.result ≡ Some m) × (m.name ≡ c.args.waiting.program.start)
  start = some_of {P = λ (m : ModeDeclaration). m.name ≡ c.args.waiting.program.start} (slice_get c.args.waiting.program.modes c.start_place-mode.result) c.start_place-mode.ensures

  starts : name_of_mode c.args.waiting.program c.start_place-mode.result ≡ c.args.waiting.program.start
  starts = ap (λ o. option_map_or (λ (m : ModeDeclaration). m.name) o []) start.1 ∙ start.2

  told : c.note.new.self ≡ noted c.self.inside.next_tick (happening.Replaced c.args.waiting.program.start ∷ []) c.self.inside.trace
  told = c.note.ensures ∙ ap (λ x. noted c.self.inside.next_tick (happening.Replaced x ∷ []) c.self.inside.trace) (c.mode_name-name.ensures ∙ starts)

  table : IsCarryTable has.0 c.args.waiting.program c.as_slice.result.now
  table =
      let keeps = subst (λ (t : Standing). IfSome t.row.program (λ p. IsCarryTable p c.args.waiting.program c.args.waiting.carried.items)) (sym c.self.view_is) c.requires.fits.keeps in
      subst (IsCarryTable has.0 c.args.waiting.program) (sym c.as_slice.ensures.value) (subst (λ o. IfSome o (λ p. IsCarryTable p c.args.waiting.program c.args.waiting.carried.items)) has.1 keeps)

  carried : valuation_of c.args.waiting.program c.carry_over.new.new_values ≡ carried_ports (valuation_of has.0 c.self.inside.values.items) has.0 c.args.waiting.program
  carried =
      let new = c.args.waiting.program in
      let fits = rw has.1 at c.self.invariant.0.fits in
      c.carry_over.ensures has.0 new table (ap length c.as_slice-2.ensures.value ∙ fits.long) (ap length c.as_mut_slice.ensures.value ∙ c.requires.fits.begins.long)
      (ap (valuation_of new) c.as_mut_slice.ensures.value ∙ c.requires.fits.begins.initial)
      ∙ ap (λ vs. carried_ports (valuation_of has.0 vs) has.0 new) c.as_slice-2.ensures.value

pub invariant_of-self : goal.invariant_of-self
invariant_of-self c =
    let s = c.self.inside in
    let p = c.args.waiting.program in
    rw (c.replace.ensures.after) ((
      record {
        short_time = omega arith;
        rests = λ e. none c;
        different = ap (λ xs. all_different_releases (tasks_in (Some p) xs)) (none c);
        fits = record {
          long = ap length (written c) ∙ long c;
          mode_there = slice_get_within p.modes _ (start c).0 (start c).1;
          quiet = λ m at t from before. absurd (omega arith);
          each = subst (AllByRecursion (IsActiveIn p s.next_tick)) (sym (none c)) tt;
          each_ended = subst (AllByRecursion (IsActiveOf p)) (sym (none_ended c)) tt;
          share_each = c.requires.fits.begins.share_each;
          invoked = λ m at. subst (AllByRecursion (IsInvokedIn p m)) (sym (none c)) tt;
        };
      },
      subst (IsTraceOf s.budgets.trace) (sym (told c)) (trace_noted s.budgets.trace s.next_tick (happening.Replaced p.start ∷ []) s.trace c.self.invariant.1),
      subst (FitsWaiting (Some p)) (sym (waits c)) tt,
    ))

pub returns-clause-step : goal.returns-clause-step
returns-clause-step c = λ row stands.
    let s = c.self.inside in
    let new = c.args.waiting.program in
    let running = running_is s.state (ap (λ (t : Standing). is_running t.row) c.self.view_is ∙ c.requires.running) in
    let here = (λ k. row_of s.grants (sym running k) (sym (has c).1 k) s.mode s.mode_time s.active.items s.values.items s.waiting s.trace s.next_tick)
    ∙ ap (λ (t : Standing). t.row) c.self.view_is ∙ stands ∙ ap (λ (t : Standing). with_last t.tenancy.budgets.trace row) (sym c.self.view_is) in
    (λ k. row_of s.grants (running k) (c.replace.ensures.after k) c.start_place-mode.result 0 (none c k) (written c k) (waits c k) c.note.new.self s.next_tick)
    ∙ stands_installed s.grants (has c).0 new s.mode s.mode_time s.active.items s.values.items s.waiting s.trace s.next_tick s.budgets.trace row c.start_place-mode.result c.carry_over.new.new_values c.note.new.self
    c.self.invariant.1.same_most here (starts c) (carried c) (told c)

pub returns-clause-active : goal.returns-clause-active
returns-clause-active c = (λ k. tasks_in (c.replace.ensures.after k) (none c k))

pub returns-clause-ended : goal.returns-clause-ended
returns-clause-ended c = (λ k. tasks_in (c.replace.ensures.after k) (none_ended c k))

pub returns-clause-shared : goal.returns-clause-shared
returns-clause-shared c all = and_from _ _ (shared_map arc_value c.args.waiting.beginning.shares.items ∙ all) (ap is_shared (waits c))
