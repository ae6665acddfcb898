use Rattle.std.proofs.Common.{◌≡◌, ◌+◌, length, map, drop, sym, ap, ◌∙◌, arith, rules}
use Rattle.std.specs.List.{range_with_len}
use Rattle.std.proofs.lemmas.List.{drop_all, length-map}
use Rattle.rig_model.specs.declared.text.programs.Actuator.{Actuator}
use Rattle.rig_model.specs.text.Program.{ActuatorDeclaration, GiottoProgram}
use Rattle.rig_model.specs.text.ProgramTrees.{actuator_of, sensor_of}
use Rattle.giotto_check.specs.cited.Slots.{with_slots}
use Rattle.tenant_slots.proofs.ActuatorSlots.{map_both, next_slot, reset_by_slots}
use Rattle.tenant_slots.proofs.actuators.reset_actuators.Goals as goal

pub loop-i-preserved : goal.loop-i-preserved
loop-i-preserved c = next_slot (λ (a : Actuator). a.initial) c.actuators-actuators.result.now c.loop-i.i _ c.index-actuators-i.result _ c.loop-i.values _ c.loop-i-test.true c.index-actuators-i.is (search rules) c.loop-i.invariant

pub returns : goal.returns
returns c =
    let p = c.args.checked.now in
    let as' = c.actuators-actuators.result.now in
    let are : map actuator_of as' ≡ p.actuators = c.actuators-actuators.ensures ∙ ap (λ (q : GiottoProgram). q.actuators) c.program-2.ensures.tree in
    let sensors : map sensor_of c.sensors-first.result.now ≡ p.sensors = c.sensors-first.ensures ∙ ap (λ (q : GiottoProgram). q.sensors) c.program.ensures.tree in
    let none : drop c.loop-i.i as' ≡ _ = drop_all c.loop-i.i as' c.loop-i-test.false in
    let start = length c.sensors-first.result.now in
    let from : start + 0 ≡ start = omega arith in
    let end : c.loop-i.values ≡ with_slots c.args.values.now (range_with_len start (length as')) (map (λ (a : Actuator). a.initial) as') =
    sym (ap (λ left. with_slots c.loop-i.values (range_with_len (start + c.loop-i.i) (length left)) (map (λ (a : Actuator). a.initial) left)) none) ∙ c.loop-i.invariant
    ∙ ap (λ k. with_slots c.args.values.now (range_with_len k (length as')) (map (λ (a : Actuator). a.initial) as')) from in
    reset_by_slots p c.args.values.now c.loop-i.values start (length as') _ c.program.ensures.fits c.requires
    (sym (length-map c.sensors-first.result.now sensor_of) ∙ ap length sensors) (sym (length-map as' actuator_of) ∙ ap length are) (map_both as' ∙ ap (map (λ (a : ActuatorDeclaration). a.initial)) are) end
