use Rattle.std.proofs.Common.{◌≡◌, ◌++◌, map, take}
use Rattle.std.specs.List.{flat_map}
use Rattle.rig_model.specs.declared.text.programs.Sensor.{Sensor}
use Rattle.rig_model.specs.declared.text.programs.Actuator.{Actuator}
use Rattle.rig_model.specs.declared.text.programs.Output.{Output}
use Rattle.tenant_programs.specs.inner.ShownPorts.{name_of_shared_port}
use Rattle.tenant_programs.proofs.ShownPorts.{names_of_task}
use Rattle.tenant_programs.proofs.shown.port_names.Given as goal

abbrev pub invariant-loop-sensor : goal.invariant-loop-sensor
invariant-loop-sensor l = l.names.items ≡ l.initial.names.items ++ map (λ (s : Sensor). name_of_shared_port s.name) (take l.sensor-index l.sensor-items)

abbrev pub invariant-loop-actuator : goal.invariant-loop-actuator
invariant-loop-actuator l = l.names.items ≡ l.initial.names.items ++ map (λ (a : Actuator). name_of_shared_port a.name) (take l.actuator-index l.actuator-items)

abbrev pub invariant-loop-output : goal.invariant-loop-output
invariant-loop-output l = l.names.items ≡ l.initial.names.items ++ map (λ (o : Output). name_of_shared_port o.name) (take l.output-index l.output-items)

abbrev pub invariant-loop-task : goal.invariant-loop-task
invariant-loop-task l = l.names.items ≡ l.initial.names.items ++ flat_map names_of_task (take l.task-index l.task-items)
