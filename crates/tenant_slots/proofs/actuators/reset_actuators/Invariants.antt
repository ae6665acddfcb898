use Rattle.std.proofs.Common.{◌≡◌, ◌+◌, length, map, drop}
use Rattle.std.specs.List.{range_with_len}
use Rattle.rig_model.specs.declared.text.programs.Actuator.{Actuator}
use Rattle.giotto_check.specs.cited.Slots.{with_slots}
use Rattle.tenant_slots.proofs.actuators.reset_actuators.Given as goal

abbrev pub invariant-loop-i : goal.invariant-loop-i
invariant-loop-i l =
    let left = drop l.i l.actuators in
    with_slots l.values (range_with_len (l.first + l.i) (length left)) (map (λ (a : Actuator). a.initial) left)
    ≡ with_slots l.initial.values (range_with_len (l.first + 0) (length l.actuators)) (map (λ (a : Actuator). a.initial) l.actuators)
