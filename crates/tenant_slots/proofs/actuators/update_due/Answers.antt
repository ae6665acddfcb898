use Rattle.std.proofs.Common.{◌≡◌, ℕ, ◌+◌, ◌-◌, ◌<◌, ◌≤◌, ◌%◌, ◌==◌, ◌&&◌, false, [], length, map, set, w64, to_z, of_z, drop, slice_get, Some, sym, ap, subst, ◌∙◌, arith, rules}
use Rattle.std.proofs.lemmas.Bool.{and_left, and_right}
use Rattle.std.proofs.lemmas.Int.{to_z-of_z}
use Rattle.std.proofs.lemmas.List.{drop_all, length-map}
use Rattle.rig_model.specs.text.Program.{ActuatorUpdate, ModeDeclaration, GiottoProgram}
use Rattle.rig_model.specs.declared.text.programs.Actuator.{Actuator}
use Rattle.rig_model.specs.text.ProgramTrees.{actuator_of, sensor_of}
use Rattle.giotto_check.specs.declared.timetables.SlotUpdate.{SlotUpdate}
use Rattle.giotto_check.specs.Slots.{valuation_of}
use Rattle.giotto_check.specs.cited.Timetables.{IsUpdate, value_over}
use Rattle.giotto_check.proofs.cited.EachLemmas.{each_long}
use Rattle.giotto_tasks.proofs.cited.ListLemmas.{all_at}
use Rattle.rig_model.specs.trace.Trace.{LastRecords}
use Rattle.rig_model.specs.trace.cited.Noted.{noted}
use Rattle.rig_model.specs.Ports.{holds}
use Rattle.rig_model.specs.Updates.{all_updated, updates_happened}
use Rattle.tenant_slots.proofs.ActuatorPlaces.{entry_slot, entry_within, name_at}
use Rattle.tenant_slots.proofs.cited.Quiet.{updates_positive}
use Rattle.tenant_slots.proofs.Recorded.{update_noted, update_left_out}
use Rattle.tenant_slots.proofs.cited.Updates.{each_item, update_within, is_made, is_left_out, update_happens, update_waits, next_update}
use Rattle.tenant_slots.proofs.actuators.update_due.Goals as goal
use Rattle.tenant_slots.proofs.actuators.update_due.Goals.{then-is_due+then-holds, else-is_due, else-is_due-via-then-is_due+else-holds, else-is_due-via-else-is_due}

pub is_due-requires : goal.is_due-requires
is_due-requires c =
    let all = updates_positive c.args.checked.now c.program-program.ensures.fits c.args.mode _ c.updates-update-items.ensures.there c.updates-update-items.ensures.none in
    subst (λ (e : SlotUpdate). 0 < e.interval) (sym c.update-item.is) (all_at (λ (e : SlotUpdate). 0 < e.interval) _ c.loop-update.update-index _ c.loop-update-test.true all)

-- the code has as many sensors and actuators as the program declares
sensors_counted : (c : goal.After-slot_value-value) → length c.sensors-first.result.now ≡ length c.args.checked.now.sensors
sensors_counted c = sym (length-map c.sensors-first.result.now sensor_of) ∙ ap length (c.sensors-first.ensures ∙ ap (λ (q : GiottoProgram). q.sensors) c.program-program.ensures.tree)

actuators_are : (c : goal.After-slot_value-value) → map actuator_of c.actuators-actuators.result.now ≡ c.args.checked.now.actuators
actuators_are c = c.actuators-actuators.ensures ∙ ap (λ (q : GiottoProgram). q.actuators) c.program-program.ensures.tree

within : (c : goal.After-slot_value-value) → c.update-item.result.actuator < length c.loop-update.values
within c =
    let in_all = update_within c.args.checked.now c.program-program.ensures.fits c.args.mode _ c.loop-update.update-index c.update-item.result c.updates-update-items.ensures.there c.updates-update-items.ensures.none
    c.loop-update-test.true c.update-item.is in
    omega (arith, in_all, c.loop-update.invariant.long)

among : (c : goal.After-slot_value-value) → (length c.sensors-first.result.now ≤ c.update-item.result.actuator) × (c.update-item.result.actuator - length c.sensors-first.result.now < length c.actuators-actuators.result.now)
among c =
    let in_row = entry_within c.args.checked.now c.program-program.ensures.fits c.args.mode _ c.loop-update.update-index c.update-item.result c.updates-update-items.ensures.there c.updates-update-items.ensures.none
    c.loop-update-test.true c.update-item.is in
    let many : length c.actuators-actuators.result.now ≡ length c.args.checked.now.actuators = sym (length-map c.actuators-actuators.result.now actuator_of) ∙ ap length (actuators_are c) in
    (omega (arith, in_row.0, sensors_counted c), omega (arith, in_row.0, in_row.1, sensors_counted c, many))

pub bounds-values-update : goal.bounds-values-update
bounds-values-update = within

pub offset_bounds-values-update : goal.offset_bounds-values-update
offset_bounds-values-update c = let inside = within c in search rules

pub overflow_sub-update : goal.overflow_sub-update
overflow_sub-update c = (among c).0

pub bounds-actuators-update : goal.bounds-actuators-update
bounds-actuators-update c = (among c).1

pub offset_bounds-actuators-update : goal.offset_bounds-actuators-update
offset_bounds-actuators-update c = let inside = (among c).1 in search rules

pub loop-update-preserved : goal.loop-update-preserved
loop-update-preserved c =
    let p = c.args.checked.now in
    let fits = c.program-program.ensures.fits in
    let es = c.updates-update-items.result.now in
    let k = c.loop-update.update-index in
    let e = c.update-item.result in
    let values = c.loop-update.values in
    let long = c.loop-update.invariant.long in
    let none : length p.modes ≤ c.args.mode → ⊥ = λ past. omega (arith, ap length (c.updates-update-items.ensures.none past), c.loop-update-test.true) in
    let now : (c.args.time % e.interval == 0) ≡ c.is_due.result = ap (λ (t : ℕ). t % e.interval == 0) (sym c.loop-update.invariant.time) ∙ sym c.is_due.ensures.due in
    let sensors : length c.sensors-first.result.now ≡ length p.sensors = sym (length-map c.sensors-first.result.now sensor_of) ∙ ap length (c.sensors-first.ensures ∙ ap (λ (q : GiottoProgram). q.sensors) c.program-program.ensures.tree) in
    let actuators : map actuator_of c.actuators-actuators.result.now ≡ p.actuators = c.actuators-actuators.ensures ∙ ap (λ (q : GiottoProgram). q.actuators) c.program-program.ensures.tree in
    let item = λ (m : ModeDeclaration) (at : slice_get p.modes c.args.mode ≡ Some m). each_item (IsUpdate p m) m.updates es k e (c.updates-update-items.ensures.there m at) c.loop-update-test.true c.update-item.is in
    elim c.if-is_due.branch [
      | then-is_due+then-holds w ↦
          let due = now ∙ w.if-is_due.true in
          let value : to_z w64 (of_z w64 w.slot_value-value.result) ≡ value_over e.value values =
          to_z-of_z w64 w.slot_value-value.result (record { sfits = w.slot_value-value.type_inv }) ∙ w.slot_value-value.ensures in
          let written = ap (valuation_of p) (w.values-is ∙ ap (set values e.actuator) value) in
          record {
            time = c.is_due.ensures.time ∙ c.loop-update.invariant.time;
            long = c.if-is_due.auto.values ∙ long;
            updated = λ m at.
                let u = item m at in
                let held = sym (w.holds.ensures p u.0.guard u.2.guard long) ∙ w.if-holds.true in
                next_update m c.args.time m.updates k u.0 _ _ _ u.1 (update_happens p fits m c.args.time u.0 e u.2 values long due held ∙ sym written) (c.loop-update.invariant.updated m at);
            noted = λ m at.
                let u = item m at in
                let held = sym (w.holds.ensures p u.0.guard u.2.guard long) ∙ w.if-holds.true in
                let slot = entry_slot p fits c.args.mode m k u.0 e at u.1 u.2 in
                let place : e.actuator - length c.sensors-first.result.now ≡ slot.0 = omega (arith, slot.1, sensors) in
                let name = ap (λ (a : Actuator). a.name) w.index-actuators-update.is ∙ name_at p c.actuators-actuators.result.now _ slot.0 u.0.actuator w.index-actuators-update.result actuators slot.2 place in
                subst (λ (t : LastRecords). noted c.args.tick (updates_happened m c.args.time (drop (k + 1) m.updates) (valuation_of p c.if-is_due.values)) t ≡ noted c.args.tick (updates_happened m c.args.time m.updates (valuation_of p c.args.values.now)) c.args.trace.now)
                (sym (w.trace-is ∙ w.note_update.ensures))
                (update_noted m c.args.time c.args.tick m.updates k u.0 (valuation_of p values) (valuation_of p c.if-is_due.values) c.loop-update.trace _ u.1
                (update_happens p fits m c.args.time u.0 e u.2 values long due held ∙ sym written) (c.loop-update.invariant.noted m at) _ _
                (is_made p fits m c.args.time u.0 e u.2 values long due held) name (value ∙ u.2.value values long));
            missing = λ past. absurd (none past);
          }
      | else-is_due w ↦
          let still = ap (valuation_of p) (sym w.values-is) in
          let waits : (m : ModeDeclaration) (u : ActuatorUpdate) → IsUpdate p m u e → ((c.args.time % e.interval == 0) && holds u.guard (valuation_of p values)) ≡ false = λ m u is.
          elim w.else-is_due.branch [
            | else-is_due-via-then-is_due+else-holds w' ↦ and_right _ _ (sym (w'.holds.ensures p u.guard is.guard long) ∙ w'.if-holds.false)
            | else-is_due-via-else-is_due w' ↦ and_left _ _ (now ∙ w'.if-is_due.false)
          ] in
          record {
            time = c.is_due.ensures.time ∙ c.loop-update.invariant.time;
            long = c.if-is_due.auto.values ∙ long;
            updated = λ m at.
                let u = item m at in
                next_update m c.args.time m.updates k u.0 _ _ _ u.1 (update_waits p fits m c.args.time u.0 e u.2 values long (waits m u.0 u.2) ∙ still) (c.loop-update.invariant.updated m at);
            noted = λ m at.
                let u = item m at in
                subst (λ (t : LastRecords). noted c.args.tick (updates_happened m c.args.time (drop (k + 1) m.updates) (valuation_of p c.if-is_due.values)) t ≡ noted c.args.tick (updates_happened m c.args.time m.updates (valuation_of p c.args.values.now)) c.args.trace.now)
                (sym w.trace-is)
                (update_left_out m c.args.time c.args.tick m.updates k u.0 (valuation_of p values) (valuation_of p c.if-is_due.values) c.loop-update.trace _ u.1
                (update_waits p fits m c.args.time u.0 e u.2 values long (waits m u.0 u.2) ∙ still) (c.loop-update.invariant.noted m at) (is_left_out p fits m c.args.time u.0 e u.2 values long (waits m u.0 u.2)));
            missing = λ past. absurd (none past);
          }
    ]

pub returns-clause-there : goal.returns-clause-there
returns-clause-there c =
    let es = c.updates-update-items.result.now in
    let p = c.args.checked.now in
    λ m at.
    let same = each_long (IsUpdate p m) m.updates es (c.updates-update-items.ensures.there m at) in
    let none : drop c.loop-update.update-index m.updates ≡ [] = drop_all c.loop-update.update-index m.updates (omega (arith, same, c.loop-update-test.false)) in
    sym (ap (λ us. all_updated m c.args.time us (valuation_of p c.loop-update.values)) none) ∙ c.loop-update.invariant.updated m at

pub returns-clause-noted : goal.returns-clause-noted
returns-clause-noted c =
    let es = c.updates-update-items.result.now in
    let p = c.args.checked.now in
    λ m at.
    let same = each_long (IsUpdate p m) m.updates es (c.updates-update-items.ensures.there m at) in
    let none : drop c.loop-update.update-index m.updates ≡ [] = drop_all c.loop-update.update-index m.updates (omega (arith, same, c.loop-update-test.false)) in
    sym (ap (λ us. noted c.args.tick (updates_happened m c.args.time us (valuation_of p c.loop-update.values)) c.loop-update.trace) none) ∙ c.loop-update.invariant.noted m at
