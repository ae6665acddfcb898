-- A mode's updates by the entries of its timetable.
use Rattle.std.proofs.Common.{◌≡◌, ℕ, ◌+◌, ◌<◌, ◌≤◌, ◌%◌, ◌==◌, true, false, ◌&&◌, ℤ, List, [], ◌∷◌, length, drop, set, get_or, ⊎_elim, Some, None, refl, sym, ap, subst, ◌∙◌, arith}
use Rattle.std.specs.Prelude.{slice_get}
use Rattle.std.proofs.lemmas.List.{drop_more, length-map}
use Rattle.std.proofs.lemmas.Option.{slice_get-get_or, slice_get_cases}
use Rattle.giotto_tasks.specs.Names.{Valuation}
use Rattle.rig_model.specs.text.Program.{ActuatorUpdate, ModeDeclaration, GiottoProgram}
use Rattle.giotto_check.specs.cited.Facts.{ProgramFits}
use Rattle.giotto_check.specs.Slots.{port_names, valuation_of}
use Rattle.rig_model.specs.rules.Ports.{ports_of, shown_name}
use Rattle.giotto_check.specs.cited.Slots.{slots_of}
use Rattle.giotto_check.specs.cited.Timetables.{AreEach, IsUpdate, value_over}
use Rattle.giotto_check.specs.declared.timetables.SlotUpdate.{SlotUpdate}
use Rattle.giotto_check.proofs.cited.EachLemmas.{each_at, each_long}
use Rattle.giotto_check.proofs.cited.SlotLemmas.{name_at_slot}
use Rattle.giotto_check.proofs.cited.Valuations.{with_value_at_place}
use Rattle.rig_model.specs.Updates.{is_updated, updated, all_updated}
use Rattle.rig_model.specs.Ports.{holds}
use Rattle.tenant_slots.proofs.cited.Numbered.{slot_within, update_due}

-- the item of the first list that an entry of the second represents
pub each_item : {A B : Type 0} (R : A → B → Type 0) (xs : List A) (ys : List B) (k : ℕ) (y : B) → AreEach R xs ys → k < length ys → y ≡ get_or ys k y → (x : A) × (drop k xs ≡ x ∷ drop (k + 1) xs) × R x y
each_item R xs ys k y all lt is = ⊎_elim
    (λ found. (found.0, drop_more xs k found.0 found.1 ∙ ap (λ z. z ∷ drop (k + 1) xs) found.3, each_at R xs ys k found.0 y all found.2 (slice_get-get_or ys k y lt ∙ ap Some (sym is))))
    (λ past. absurd (omega (arith, past.0, lt, each_long R xs ys all))) (slice_get_cases xs k).1

module _ (p : GiottoProgram) (fits : ProgramFits p) where
  -- its actuator has a slot
  pub update_within : (mode : ℕ) (es : List SlotUpdate) (k : ℕ) (e : SlotUpdate) → ((m : ModeDeclaration) → slice_get p.modes mode ≡ Some m → AreEach (IsUpdate p m) m.updates es)
      → (length p.modes ≤ mode → es ≡ []) → k < length es → e ≡ get_or es k e → e.actuator < slots_of p
  update_within mode es k e there none lt is = ⊎_elim
      (λ found. let item = each_item (IsUpdate p found.0) found.0.updates es k e (there found.0 found.2) lt is in slot_within p None item.0.actuator e.actuator item.2.actuator)
      (λ past. absurd (omega (arith, subst (λ l. k < length l) (none past.0) lt))) (slice_get_cases p.modes mode).1

  module _ (m : ModeDeclaration) (time : ℕ) (u : ActuatorUpdate) (e : SlotUpdate) (is : IsUpdate p m u e) (values : List ℤ) (long : length values ≡ slots_of p) where
    pub is_made : (time % e.interval == 0) ≡ true → holds u.guard (valuation_of p values) ≡ true → is_updated m time u (valuation_of p values) ≡ true
    is_made due held = rw (← update_due p fits time m u e is, due, held) refl

    pub is_left_out : ((time % e.interval == 0) && holds u.guard (valuation_of p values)) ≡ false → is_updated m time u (valuation_of p values) ≡ false
    is_left_out waits = ap (λ b. b && holds u.guard (valuation_of p values)) (sym (update_due p fits time m u e is)) ∙ waits

    pub update_happens : (time % e.interval == 0) ≡ true → holds u.guard (valuation_of p values) ≡ true → updated m time u (valuation_of p values) ≡ valuation_of p (set values e.actuator (value_over e.value values))
    update_happens due held =
        let value = is.value values long in
        let written = with_value_at_place (port_names p) values e.actuator u.actuator (value_over e.value values) fits.ports_once (name_at_slot p None u.actuator e.actuator is.actuator) (length-map (ports_of p) shown_name ∙ sym long) in
        let happens = is_made due held in
        rw (happens, ← value) written

    pub update_waits : ((time % e.interval == 0) && holds u.guard (valuation_of p values)) ≡ false → updated m time u (valuation_of p values) ≡ valuation_of p values
    update_waits waits =
        let still = is_left_out waits in
        rw (still) refl

pub next_update : (m : ModeDeclaration) (time : ℕ) (us : List ActuatorUpdate) (k : ℕ) (u : ActuatorUpdate) (ports after whole : Valuation) → drop k us ≡ u ∷ drop (k + 1) us → updated m time u ports ≡ after
    → all_updated m time (drop k us) ports ≡ whole → all_updated m time (drop (k + 1) us) after ≡ whole
next_update m time us k u ports after whole here e h = ap (all_updated m time (drop (k + 1) us)) (sym e) ∙ sym (ap (λ l. all_updated m time l ports) here) ∙ h
