use Rattle.std.proofs.Common.{◌+◌, Some, length, map, drop, ap, sym, arith, ◌∙◌}
use Rattle.std.specs.List.{flat_map, position_from}
use Rattle.std.proofs.lemmas.List.{length-append, length-map}
use Rattle.giotto_rules.specs.text.ProgramTrees.{task_of}
use Rattle.giotto_rules.specs.Declarations.{driver_ports}
use Rattle.giotto_rules.specs.Ports.{is_port, ports_of_task, shared_port}
use Rattle.giotto_check.proofs.cited.EachLemmas.{left_at}
use Rattle.giotto_check.proofs.cited.PlaceLemmas.{place_first, place_second, place_within}
use Rattle.giotto_check.proofs.cited.SlotLemmas.{slot_own}
use Rattle.giotto_check.proofs.slots.own_slot.Goals as goal

pub loop-declared-init : goal.loop-declared-init
loop-declared-init c =
    let p = c.args.program.now in
    let t = c.args.task.now in
    let x = c.args.name.now in
    let shared = map shared_port (driver_ports p) in
    let all = ap (flat_map ports_of_task) c.tasks-declared-items.ensures in
    record {
      slot =
          ap (position_from (is_port (Some t) x) c.shared_slots-slot.result) all ∙ ap (λ k. position_from (is_port (Some t) x) k (flat_map ports_of_task p.tasks)) c.shared_slots-slot.ensures
          ∙ sym (slot_own p t x);
      room = omega (arith, ap length all, length-append shared (flat_map ports_of_task p.tasks), length-map (driver_ports p) shared_port, c.shared_slots-slot.ensures);
    }

pub overflow_add-result : goal.overflow_add-result
overflow_add-result c =
    let t = c.args.task.now in
    let x = c.args.name.now in
    let d = c.declared-item.result in
    let rest = flat_map ports_of_task (map task_of (drop (c.loop-declared.declared-index + 1) c.tasks-declared-items.result.now)) in
    let cut = ap (flat_map ports_of_task) (left_at task_of c.tasks-declared-items.result.now c.loop-declared.declared-index d c.declared-item.is c.loop-declared-test.true) in
    let within = place_within (is_port (Some t) x) 0 (ports_of_task (task_of d)) c.in-Some.place (sym c.own_place.ensures ∙ c.in-Some.is) in
    omega (arith, c.loop-declared.invariant.room, ap length cut, length-append (ports_of_task (task_of d)) rest, within)

pub returns-in-Some : goal.returns-in-Some
returns-in-Some c =
    let t = c.args.task.now in
    let x = c.args.name.now in
    let d = c.declared-item.result in
    let slot = c.loop-declared.slot in
    let rest = flat_map ports_of_task (map task_of (drop (c.loop-declared.declared-index + 1) c.tasks-declared-items.result.now)) in
    let cut = ap (flat_map ports_of_task) (left_at task_of c.tasks-declared-items.result.now c.loop-declared.declared-index d c.declared-item.is c.loop-declared-test.true) in
    sym (place_first (is_port (Some t) x) slot c.in-Some.place (ports_of_task (task_of d)) rest (sym c.own_place.ensures ∙ c.in-Some.is))
    ∙ sym (ap (position_from (is_port (Some t) x) slot) cut) ∙ c.loop-declared.invariant.slot

pub loop-declared-preserved : goal.loop-declared-preserved
loop-declared-preserved c =
    let t = c.args.task.now in
    let x = c.args.name.now in
    let d = c.declared-item.result in
    let slot = c.loop-declared.slot in
    let rest = flat_map ports_of_task (map task_of (drop (c.loop-declared.declared-index + 1) c.tasks-declared-items.result.now)) in
    let cut = ap (flat_map ports_of_task) (left_at task_of c.tasks-declared-items.result.now c.loop-declared.declared-index d c.declared-item.is c.loop-declared-test.true) in
    record {
      slot =
          ap (λ k. position_from (is_port (Some t) x) (slot + k) rest) c.own_slots-slot.ensures
          ∙ sym (place_second (is_port (Some t) x) slot (ports_of_task (task_of d)) rest (sym c.own_place.ensures ∙ c.in-None.is))
          ∙ sym (ap (position_from (is_port (Some t) x) slot) cut) ∙ c.loop-declared.invariant.slot;
      room = omega (arith, c.loop-declared.invariant.room, ap length cut, length-append (ports_of_task (task_of d)) rest, c.own_slots-slot.ensures);
    }
