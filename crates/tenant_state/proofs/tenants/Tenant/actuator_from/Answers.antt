use Rattle.std.proofs.Common.{◌<◌, ◌+◌, length, get_or, pos, Some, sym, ap, ◌∙◌, arith, rules, w64, SFits}
use Rattle.std.proofs.lemmas.Int.{to_z-of_z}
use Rattle.std.proofs.lemmas.Option.{slice_get-get_or}
use Rattle.tenant_state.proofs.Readers.{no_value, slot_there, value_there}
use Rattle.tenant_state.proofs.tenants.Tenant.actuator_from.Goals as goal
use Rattle.tenant_state.proofs.tenants.Tenant.actuator_from.Goals.{After-sensors}

pub returns-in_err-place : goal.returns-in_err-place
returns-in_err-place c =
    rw (← c.self.view_is, c.in-Some.is, c.from_residual.ensures) (no_value c.in-Some.checked c.args.name.now _ (sym c.in_err-place.was ∙ c.actuator_place.ensures))

-- the slot is one of the program's
within : (c : After-sensors) → length c.sensors.result.now + c.in_ok-place.place < length c.self.inside.values.items
within c =
    let known = rw c.in-Some.is at c.self.invariant.0 in
    let sensors = rw c.program.ensures.tree at c.sensors.ensures in
    let there = slot_there c.in-Some.checked c.args.name.now c.sensors.result.now sensors c.in_ok-place.place (sym c.in_ok-place.was ∙ c.actuator_place.ensures) in
    omega (arith, there, known.fits.long)

pub overflow_add-slot : goal.overflow_add-slot
overflow_add-slot c = let there = within c in omega (arith, there, c.self.inside.values.ok.0)

pub bounds-values-slot : goal.bounds-values-slot
bounds-values-slot c = let there = within (goal.at.bounds-values-slot c).After-sensors in omega (arith, there, ap length c.as_slice-values.ensures.value)

pub offset_bounds-values-slot : goal.offset_bounds-values-slot
offset_bounds-values-slot c =
    let there = within (goal.at.offset_bounds-values-slot c).After-sensors in
    let below : length c.sensors.result.now + c.in_ok-place.place < length c.as_slice-values.result.now = omega (arith, there, ap length c.as_slice-values.ensures.value) in
    search rules

pub returns : goal.returns
returns c =
    let s = c.self.inside in
    let slot = length c.sensors.result.now + c.in_ok-place.place in
    let there = within (goal.at.returns c).After-sensors in
    let sensors = rw c.program.ensures.tree at c.sensors.ensures in
    let value = value_there c.in-Some.checked c.args.name.now c.sensors.result.now sensors c.in_ok-place.place (sym c.in_ok-place.was ∙ c.actuator_place.ensures) c.program.ensures.fits s.values.items in
    let fits : SFits w64 (get_or c.as_slice-values.result.now slot (pos 0)) = search rules in
    rw (← c.self.view_is, c.in-Some.is)
    (ap Some (to_z-of_z w64 (get_or c.as_slice-values.result.now slot (pos 0)) fits) ∙ ap (λ zs. Some (get_or zs slot (pos 0))) c.as_slice-values.ensures.value
    ∙ sym (slice_get-get_or s.values.items slot (pos 0) there) ∙ sym value)
