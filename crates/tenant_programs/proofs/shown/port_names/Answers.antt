use Rattle.std.proofs.Common.{rules, ◌≡◌, ◌++◌, ◌∷◌, [], map, take, sym, ap, ◌∙◌, append_assoc, append-nil}
use Rattle.std.specs.Arc.{arc_value}
use Rattle.std.specs.List.{flat_map}
use Rattle.std.proofs.lemmas.List.{take_all, take_more}
use Rattle.std.proofs.lemmas.List.Concat.{flat_map-append}
use Rattle.rig_model.specs.declared.text.programs.Sensor.{Sensor}
use Rattle.rig_model.specs.declared.text.programs.Actuator.{Actuator}
use Rattle.rig_model.specs.declared.text.programs.Output.{Output}
use Rattle.tenant_programs.specs.inner.ShownPorts.{name_of_shared_port, name_of_own_port}
use Rattle.tenant_programs.proofs.ShownPorts.{own_names, names_of_task, all_names}
use Rattle.tenant_programs.proofs.shown.port_names.Goals as goal

pub loop-task-preserved : goal.loop-task-preserved
loop-task-preserved c =
    let items = c.tasks-task-items.result.now in
    let i = c.loop-task.task-index in
    let t = c.task-item.result in
    let old = c.loop-output.names.items in
    let front = c.loop-task.names.items in
    let inputs : c.add_own_ports.new.names.items ≡ front ++ map (name_of_own_port t.name) (arc_value t.body).inputs = c.in_ok-add_own_ports.ensures ∙ ap (λ ns. front ++ map (name_of_own_port t.name) ns) (search rules) in
    let states : c.add_own_ports-in-loop-task.new.names.items ≡ c.add_own_ports.new.names.items ++ map (name_of_own_port t.name) (arc_value t.body).states =
    c.in_ok-add_own_ports-2.ensures ∙ ap (λ ns. c.add_own_ports.new.names.items ++ map (name_of_own_port t.name) ns) (search rules) in
    let task : c.add_own_ports-in-loop-task.new.names.items ≡ front ++ names_of_task t =
    states ∙ ap (λ ns. ns ++ map (name_of_own_port t.name) (arc_value t.body).states) inputs
    ∙ append_assoc front (map (name_of_own_port t.name) (arc_value t.body).inputs) (map (name_of_own_port t.name) (arc_value t.body).states) ∙ ap (λ ns. front ++ ns) (own_names t) in
    task ∙ ap (λ ns. ns ++ names_of_task t) c.loop-task.invariant
    ∙ append_assoc old (flat_map names_of_task (take i items)) (names_of_task t)
    ∙ ap (λ ns. old ++ ns) (sym (ap (flat_map names_of_task) (take_more items i t c.loop-task-test.true ∙ ap (λ x. take i items ++ x ∷ []) (sym c.task-item.is))
    ∙ flat_map-append names_of_task (take i items) (t ∷ []) ∙ ap (λ ns. flat_map names_of_task (take i items) ++ ns) (append-nil (names_of_task t))))

pub returns : goal.returns
returns c =
    let p = c.args.program.now in
    let ss = c.sensors-sensor-items.result.now in
    let us = c.actuators-actuator-items.result.now in
    let os = c.outputs-output-items.result.now in
    let ts = c.tasks-task-items.result.now in
    let one = c.new-names.ensures.items in
    let first : c.loop-sensor.names.items ≡ map (λ (s : Sensor). name_of_shared_port s.name) ss =
    c.loop-sensor.invariant ∙ (λ k. one k ++ map (λ (s : Sensor). name_of_shared_port s.name) (take_all c.loop-sensor.sensor-index ss c.loop-sensor-test.false k)) in
    let second = c.loop-actuator.invariant ∙ (λ k. first k ++ map (λ (a : Actuator). name_of_shared_port a.name) (take_all c.loop-actuator.actuator-index us c.loop-actuator-test.false k)) in
    let third = c.loop-output.invariant ∙ (λ k. second k ++ map (λ (o : Output). name_of_shared_port o.name) (take_all c.loop-output.output-index os c.loop-output-test.false k)) in
    c.loop-task.invariant ∙ (λ k. third k ++ flat_map names_of_task (take_all c.loop-task.task-index ts c.loop-task-test.false k))
    ∙ all_names p ss us os ts c.sensors-sensor-items.ensures c.actuators-actuator-items.ensures c.outputs-output-items.ensures c.tasks-task-items.ensures
