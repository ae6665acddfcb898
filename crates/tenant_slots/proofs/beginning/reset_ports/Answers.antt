use Rattle.std.proofs.Common.{rules, ℤ, ◌+◌, ◌≤◌, [], ◌++◌, length, map, take, drop, sym, ap, ◌∙◌, arith}
use Rattle.std.specs.List.{flat_map}
use Rattle.std.proofs.lemmas.List.{take_all, length-append, length-map}
use Rattle.giotto_tasks.specs.declared.names.Name.{Name}
use Rattle.giotto_check.specs.cited.Slots.{slots_of, with_range}
use Rattle.rig_model.specs.text.Program.{GiottoProgram}
use Rattle.rig_model.specs.text.ProgramTrees.{task_of}
use Rattle.rig_model.specs.declared.text.programs.Sensor.{Sensor}
use Rattle.rig_model.specs.declared.text.programs.Actuator.{Actuator}
use Rattle.rig_model.specs.declared.text.programs.Output.{Output}
use Rattle.rig_model.specs.Ports.{initial_of_task, initial_ports}
use Rattle.tenant_slots.proofs.InitialValues.{values_in, values_of_task, values_long, ports_are, next_task, all_counted, all_values}
use Rattle.tenant_slots.proofs.WrittenRanges.{next_value, none_written, range_more, whole_range, begin_none, begin_more}
use Rattle.tenant_slots.proofs.beginning.reset_ports.Goals as goal

pub loop-sensor-preserved : goal.loop-sensor-preserved
loop-sensor-preserved c =
    let loop = c.loop-sensor in record {
      room = search rules;
      slot = search rules;
      values = next_value (λ (s : Sensor). s.initial) _ loop.values _ loop.slot _ loop.sensor-index c.sensor-item.result _ loop.invariant.room c.loop-sensor-test.true c.sensor-item.is
          (search rules) loop.invariant.slot loop.invariant.values;
    }

pub loop-actuator-preserved : goal.loop-actuator-preserved
loop-actuator-preserved c =
    let loop = c.loop-actuator in record {
      room = search rules;
      slot = search rules;
      values = next_value (λ (a : Actuator). a.initial) _ loop.values _ loop.slot _ loop.actuator-index c.actuator-item.result _ loop.invariant.room c.loop-actuator-test.true c.actuator-item.is
          (search rules) loop.invariant.slot loop.invariant.values;
    }

pub loop-output-preserved : goal.loop-output-preserved
loop-output-preserved c =
    let loop = c.loop-output in record {
      room = search rules;
      slot = search rules;
      values = next_value (λ (o : Output). o.initial) _ loop.values _ loop.slot _ loop.output-index c.output-item.result _ loop.invariant.room c.loop-output-test.true c.output-item.is
          (search rules) loop.invariant.slot loop.invariant.values;
    }

pub loop-task-init : goal.loop-task-init
loop-task-init c =
    let first = c.loop-sensor in
    let second = c.loop-actuator in
    let third = c.loop-output in
    let counted = all_counted c.program-program.result.now _ _ _ _ c.sensors-sensor-items.ensures c.actuators-actuator-items.ensures c.outputs-output-items.ensures c.tasks-task-items.ensures in
    let slots = ap slots_of c.program-program.ensures.tree in record {
      room = omega (
        arith,
        counted,
        slots,
        c.requires,
        first.invariant.slot,
        first.auto.sensor-index-end,
        first.auto.values,
        second.invariant.slot,
        second.auto.actuator-index-end,
        second.auto.values,
        third.invariant.slot,
        third.auto.output-index-end,
        third.auto.values,
      );
      slot = omega arith;
      values = none_written third.values third.slot;
    }

pub loop-task-preserved : goal.loop-task-preserved
loop-task-preserved c =
    let items = c.tasks-task-items.result.now in
    let loop = c.loop-task in
    let i = loop.task-index in
    let t = c.task-item.result in
    let reset = c.reset_own-slot in
    let done = flat_map values_of_task (take i items) in
    let next = next_task items i t c.loop-task-test.true c.task-item.is in
    let behind = length-append done (values_of_task t) in
    let before = length-append (values_of_task t) (flat_map values_of_task (drop (i + 1) items)) in
    let own = length-map (initial_of_task (task_of t)) (λ (v : Name × ℤ). v.1) in
    let room : c.loop-output.slot + length done ≤ length c.loop-output.values = omega (arith, loop.invariant.room, loop.invariant.slot, loop.auto.values) in
    let all = range_more c.loop-output.values loop.values reset.new.values c.loop-output.slot loop.slot done (values_of_task t) room loop.invariant.slot loop.invariant.values reset.ensures.values in record {
      room = omega (arith, loop.invariant.room, ap length next.1, before, own, reset.ensures.end, reset.auto.values);
      slot = omega (arith, loop.invariant.slot, ap length next.0, behind, own, reset.ensures.end);
      values = all ∙ ap (with_range c.loop-output.values c.loop-output.slot) (sym next.0);
    }

pub returns : goal.returns
returns c =
    let p = c.args.checked.now in
    let before = c.args.values.now in
    let ss = c.sensors-sensor-items.result.now in
    let us = c.actuators-actuator-items.result.now in
    let os = c.outputs-output-items.result.now in
    let ts = c.tasks-task-items.result.now in
    let sensors = map (λ (s : Sensor). s.initial) ss in
    let actuators = map (λ (a : Actuator). a.initial) us in
    let outputs = map (λ (o : Output). o.initial) os in
    let first = c.loop-sensor in
    let second = c.loop-actuator in
    let third = c.loop-output in
    let last = c.loop-task in
    let one = begin_more (λ (s : Sensor). s.initial) before before first.values [] 0 first.slot ss first.sensor-index (begin_none before) first.auto.values first.invariant.room
    c.loop-sensor-test.false first.auto.sensor-index-end first.invariant.slot first.invariant.values in
    let two = begin_more (λ (a : Actuator). a.initial) before first.values second.values sensors first.slot second.slot us second.actuator-index one second.auto.values second.invariant.room
    c.loop-actuator-test.false second.auto.actuator-index-end second.invariant.slot second.invariant.values in
    let three = begin_more (λ (o : Output). o.initial) before second.values third.values (sensors ++ actuators) second.slot third.slot os third.output-index two third.auto.values third.invariant.room
    c.loop-output-test.false third.auto.output-index-end third.invariant.slot third.invariant.values in
    let room : 0 + length ((sensors ++ actuators) ++ outputs) ≤ length before = omega (arith, three.slot, three.long, last.invariant.room, last.invariant.slot, last.auto.values) in
    let own = last.invariant.values ∙ ap (λ us. with_range third.values third.slot (flat_map values_of_task us)) (take_all last.task-index ts c.loop-task-test.false) in
    let all = range_more before third.values last.values 0 third.slot ((sensors ++ actuators) ++ outputs) (flat_map values_of_task ts) room (omega (arith, three.slot)) three.begin own in
    let are = all_values c.program-program.result.now ss us os ts c.sensors-sensor-items.ensures c.actuators-actuator-items.ensures c.outputs-output-items.ensures c.tasks-task-items.ensures
    ∙ ap (λ (q : GiottoProgram). values_in (initial_ports q)) c.program-program.ensures.tree in
    ports_are p last.values (all ∙ whole_range before _ (values_long p _ are ∙ sym c.requires) ∙ are)
