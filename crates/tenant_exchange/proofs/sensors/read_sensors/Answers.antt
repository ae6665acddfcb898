use Rattle.std.proofs.Common.{ℕ, ◌≤◌, ◌<◌, length, None, Some, inl, inr, sym, ap, ◌∙◌, arith, rules, w64, SFits, Bor}
use Rattle.std.specs.Option.{option_map}
use Rattle.std.proofs.lemmas.Int.{to_z-of_z}
use Rattle.giotto_tasks.specs.declared.names.Name.{Name}
use Rattle.tenant_slots.specs.well_formed.Slots.{valuation_of}
use Rattle.rig_model.specs.Readings.{readings_within}
use Rattle.tenant_slots.specs.cited.Grants.{with_granted}
use Rattle.tenant_exchange.proofs.GrantedAlong.{all_taken, none_past, nothing_taken, value_taken, what_stands, written_as_it_stands}
use Rattle.tenant_exchange.proofs.sensors.read_sensors.Goals as goal

pub loop-i-preserved-in_default : goal.loop-i-preserved-in_default
loop-i-preserved-in_default c =
    let readings = readings_within c.args.budgets.now.reads c.args.frame.now in
    let now = c.loop-i.invariant in
    let within : c.loop-i.i < length c.loop-i.granted = omega (arith, c.loop-i-test.true) in
    let none = what_stands c.args.granted.now c.loop-i.granted c.loop-i.i c.index-granted-i.result c.value.result None now.same within c.value.ensures c.in_default.is in
    record {
      long = now.long;
      same = now.same;
      taken = λ ports sensed. now.taken ports sensed ∙ nothing_taken c.args.checked.now readings ports c.args.grants.now.binds c.args.granted.now c.loop-i.i none;
    }

pub loop-i-preserved : goal.loop-i-preserved
loop-i-preserved c =
    let p = c.args.checked.now in
    let grants = c.args.grants.now in
    let readings = readings_within c.args.budgets.now.reads c.args.frame.now in
    let now = c.loop-i.invariant in
    let it = c.in-Some-bind_at in
    let bound = sym c.bind_at.ensures.bind ∙ ap (option_map (λ (b : Bor Name × ℕ × Bor Name). (b.0.now, b.1, b.2.now))) it.is in
    let within : c.loop-i.i < length c.loop-i.granted = omega (arith, c.loop-i-test.true) in
    let value = what_stands c.args.granted.now c.loop-i.granted c.loop-i.i c.index-granted-i.result c.value.result (Some c.in-Some.value) now.same within c.value.ensures c.in-Some.is in
    let fits : SFits w64 c.in-Some.value = search rules in
    record {
      long = c.take_granted-place.auto.values ∙ now.long;
      same = written_as_it_stands c.args.granted.now c.loop-i.granted c.loop-i.i c.index-granted-i-in-loop-i-2.result c.note_sensor.new.self now.same c.note_sensor.ensures;
      taken = λ ports sensed. c.take_granted-place.ensures ∙ rw (to_z-of_z w64 c.in-Some.value fits) (ap (with_granted p it.sensor.now c.in-Some.value) (now.taken ports sensed)
          ∙ value_taken p readings ports grants.binds c.args.granted.now c.loop-i.i grants.owner.roster it.sensor.now _ _ c.in-Some.value
          c.known.ensures.fits.ports_once c.known-2.ensures.binds_differ bound value);
    }

pub returns-in_default-bind_at-clause-ports : goal.returns-in_default-bind_at-clause-ports
returns-in_default-bind_at-clause-ports c =
    let grants = c.args.grants.now in
    let ports = valuation_of c.args.checked.now c.args.values.now in
    let readings = readings_within c.args.budgets.now.reads c.args.frame.now in
    let past = none_past c.bind_at.result c.loop-i.i (length grants.binds) c.in_default-bind_at.is c.bind_at.ensures.found.1 in
    c.loop-i.invariant.taken ports c.sense.ensures ∙ all_taken c.args.checked.now readings ports grants.binds c.args.granted.now c.loop-i.i (inl past)

pub returns-clause-ports : goal.returns-clause-ports
returns-clause-ports c =
    let ports = valuation_of c.args.checked.now c.args.values.now in
    let readings = readings_within c.args.budgets.now.reads c.args.frame.now in
    let past : length c.args.granted.now ≤ c.loop-i.i = omega (arith, c.loop-i-test.false) in
    c.loop-i.invariant.taken ports c.sense.ensures ∙ all_taken c.args.checked.now readings ports c.args.grants.now.binds c.args.granted.now c.loop-i.i (inr past)

pub returns-clause-granted : goal.returns-clause-granted
returns-clause-granted c = c.loop-i.invariant.same

pub returns-in_default-bind_at-clause-granted : goal.returns-in_default-bind_at-clause-granted
returns-in_default-bind_at-clause-granted c = c.loop-i.invariant.same
