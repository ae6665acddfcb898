use Rattle.std.proofs.Common.{◌≡◌, ◌-◌, length, take, drop, set, w64, ap, subst, ◌∙◌, arith}
use Rattle.std.proofs.lemmas.Int.{to_z-of_z}
use Rattle.std.proofs.lemmas.List.{length-drop, take_all}
use Rattle.giotto_check.specs.cited.Slots.{with_slots}
use Rattle.tenant_slots.specs.inner.Switches.{slots_given, values_given}
use Rattle.tenant_slots.proofs.TakenSwitches.{given_first}
use Rattle.tenant_slots.proofs.switches.+give.Goals as goal

pub returns : goal.returns
returns t c =
    let z = c.slot_value-value.result in
    let es = c.args.destinations.now in
    let left = take (length es - 1) (drop 1 es) in
    let rest : left ≡ drop 1 es = take_all (length es - 1) (drop 1 es) (omega (arith, length-drop 1 es)) in
    let given = subst (λ ds. c.give.new.values ≡ with_slots c.args.values.now (slots_given ds) (values_given ds c.args.values.now)) rest c.give.ensures in
    ap (set c.give.new.values c.first-item.result.output) (to_z-of_z w64 z (record { sfits = c.slot_value-value.type_inv }))
    ∙ given_first es c.first-item.result c.args.values.now c.give.new.values z c.in-len1-up.len_at_least c.first-item.is c.requires.once given c.slot_value-value.ensures
