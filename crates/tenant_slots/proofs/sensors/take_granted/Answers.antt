use Rattle.std.proofs.Common.{◌<◌, length, w64, ap, sym, ◌∙◌, rules}
use Rattle.std.specs.Prelude.{slice_set}
use Rattle.std.proofs.lemmas.Int.{to_z-of_z}
use Rattle.giotto_check.specs.Slots.{valuation_of}
use Rattle.tenant_slots.proofs.cited.Granted.{granted_at, granted_nowhere, granted_within}
use Rattle.tenant_slots.proofs.sensors.take_granted.Goals as goal

pub bounds-values-place : goal.bounds-values-place
bounds-values-place c =
    granted_within c.args.checked.now c.args.values.now c.args.sensor.now c.known.ensures.fits.ports_once c.requires c.in-Some.place (sym c.in-Some.ensures)

pub offset_bounds-values-place : goal.offset_bounds-values-place
offset_bounds-values-place c =
    let within : c.in-Some.place < length c.args.values.now =
    granted_within c.args.checked.now c.args.values.now c.args.sensor.now c.known.ensures.fits.ports_once c.requires c.in-Some.place (sym c.in-Some.ensures) in
    search rules

pub returns : goal.returns
returns c =
    let p = c.args.checked.now in
    let values = c.args.values.now in
    ap (λ z. valuation_of p (slice_set values c.in-Some.place z)) (to_z-of_z w64 c.args.value c.ranges.value)
    ∙ granted_at p values c.args.sensor.now c.known.ensures.fits.ports_once c.requires c.in-Some.place c.args.value (sym c.in-Some.ensures)

pub returns-in_default : goal.returns-in_default
returns-in_default c =
    granted_nowhere c.args.checked.now c.args.values.now c.args.sensor.now c.known.ensures.fits.ports_once c.requires c.args.value (sym c.in_default.ensures)
