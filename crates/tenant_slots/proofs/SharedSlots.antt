-- The slots of sensors, actuators and outputs, by their places among those of their kind.
use Rattle.std.proofs.Common.{◌≡◌, ◌≤◌, ◌+◌, ℕ, List, ◌++◌, length, map, Some, None, ap, sym, ◌∙◌, zero-add, arith}
use Rattle.std.specs.List.{flat_map, position_from}
use Rattle.std.specs.Option.{option_map}
use Rattle.std.proofs.lemmas.List.{length-append, length-map}
use Rattle.giotto_tasks.specs.declared.names.Name.{Name}
use Rattle.giotto_tasks.specs.Names.{same_name}
use Rattle.rig_model.specs.text.Program.{GiottoProgram}
use Rattle.rig_model.specs.text.ProgramTrees.{sensor_of, actuator_of, output_of}
use Rattle.rig_model.specs.declared.text.programs.Actuator.{Actuator}
use Rattle.rig_model.specs.declared.text.programs.Output.{Output}
use Rattle.rig_model.specs.declared.text.programs.Sensor.{Sensor}
use Rattle.rig_model.specs.rules.Declarations.{actuator_names, driver_ports, output_names, sensor_names}
use Rattle.rig_model.specs.rules.Ports.{ports_of_task, shared_port, slot_of}
use Rattle.giotto_check.specs.cited.Slots.{slots_of}
use Rattle.giotto_check.proofs.cited.PlaceLemmas.{place-map, place_first, place_from, place_second}
use Rattle.giotto_check.proofs.cited.SlotLemmas.{slot_shared}

module _ (q p : GiottoProgram) (same : q ≡ p) (x : Name) (sensors : List Sensor) (actuators : List Actuator) (outputs : List Output)
    (sensors_are : map sensor_of sensors ≡ q.sensors) (actuators_are : map actuator_of actuators ≡ q.actuators) (outputs_are : map output_of outputs ≡ q.outputs) where
  all_sensors : map sensor_of sensors ≡ p.sensors
  all_sensors = sensors_are ∙ ap (λ (r : GiottoProgram). r.sensors) same

  all_actuators : map actuator_of actuators ≡ p.actuators
  all_actuators = actuators_are ∙ ap (λ (r : GiottoProgram). r.actuators) same

  all_outputs : map output_of outputs ≡ p.outputs
  all_outputs = outputs_are ∙ ap (λ (r : GiottoProgram). r.outputs) same

  among_sensors : position_from (λ n. same_name n x) 0 (sensor_names p) ≡ position_from (λ (s : Sensor). same_name s.name x) 0 sensors
  among_sensors =
      ap (λ ds. position_from (λ n. same_name n x) 0 (map (λ d. d.name) ds)) (sym all_sensors)
      ∙ place-map (λ n. same_name n x) (λ d. d.name) 0 (map sensor_of sensors) ∙ place-map (λ d. same_name d.name x) sensor_of 0 sensors

  among_actuators : position_from (λ n. same_name n x) 0 (actuator_names p) ≡ position_from (λ (a : Actuator). same_name a.name x) 0 actuators
  among_actuators =
      ap (λ ds. position_from (λ n. same_name n x) 0 (map (λ d. d.name) ds)) (sym all_actuators)
      ∙ place-map (λ n. same_name n x) (λ d. d.name) 0 (map actuator_of actuators) ∙ place-map (λ d. same_name d.name x) actuator_of 0 actuators

  among_outputs : (i : ℕ) → position_from (λ n. same_name n x) i (output_names p) ≡ position_from (λ (o : Output). same_name o.name x) i outputs
  among_outputs i =
      ap (λ ds. position_from (λ n. same_name n x) i (map (λ d. d.name) ds)) (sym all_outputs)
      ∙ place-map (λ n. same_name n x) (λ d. d.name) i (map output_of outputs) ∙ place-map (λ d. same_name d.name x) output_of i outputs

  many_sensors : length (sensor_names p) ≡ length sensors
  many_sensors = length-map p.sensors (λ d. d.name) ∙ ap length (sym all_sensors) ∙ length-map sensors sensor_of

  many_actuators : length (actuator_names p) ≡ length actuators
  many_actuators = length-map p.actuators (λ d. d.name) ∙ ap length (sym all_actuators) ∙ length-map actuators actuator_of

  many_outputs : length (output_names p) ≡ length outputs
  many_outputs = length-map p.outputs (λ d. d.name) ∙ ap length (sym all_outputs) ∙ length-map outputs output_of

  -- they are no more than there are ports
  pub shared_within : length sensors + length actuators + length outputs ≤ slots_of p
  shared_within = omega (
    arith,
    many_sensors,
    many_actuators,
    many_outputs,
    length-append (map shared_port (driver_ports p)) (flat_map ports_of_task p.tasks),
    length-map (driver_ports p) shared_port,
    length-append (sensor_names p) (actuator_names p ++ output_names p),
    length-append (actuator_names p) (output_names p),
  )

  pub sensor_slot : (k : ℕ) → position_from (λ (s : Sensor). same_name s.name x) 0 sensors ≡ Some k → slot_of p None x ≡ Some k
  sensor_slot k e =
      slot_shared p x ∙ place_first (λ n. same_name n x) 0 k (sensor_names p) (actuator_names p ++ output_names p) (among_sensors ∙ e) ∙ ap Some (zero-add k)

  module _ (no_sensor : position_from (λ (s : Sensor). same_name s.name x) 0 sensors ≡ None) where
    behind_sensors : slot_of p None x ≡ position_from (λ n. same_name n x) (0 + length (sensor_names p)) (actuator_names p ++ output_names p)
    behind_sensors = slot_shared p x ∙ place_second (λ n. same_name n x) 0 (sensor_names p) (actuator_names p ++ output_names p) (among_sensors ∙ no_sensor)

    pub actuator_slot : (k : ℕ) → position_from (λ (a : Actuator). same_name a.name x) 0 actuators ≡ Some k → slot_of p None x ≡ Some (length sensors + k)
    actuator_slot k e =
        let number : 0 + length (sensor_names p) + k ≡ length sensors + k = omega (arith, many_sensors) in
        behind_sensors ∙ place_first (λ n. same_name n x) (0 + length (sensor_names p)) k (actuator_names p) (output_names p) (among_actuators ∙ e) ∙ ap Some number

    module _ (no_actuator : position_from (λ (a : Actuator). same_name a.name x) 0 actuators ≡ None) where
      behind_actuators : slot_of p None x ≡ position_from (λ (o : Output). same_name o.name x) (length sensors + length actuators) outputs
      behind_actuators =
          let number : 0 + length (sensor_names p) + length (actuator_names p) ≡ length sensors + length actuators = omega (arith, many_sensors, many_actuators) in
          behind_sensors ∙ place_second (λ n. same_name n x) (0 + length (sensor_names p)) (actuator_names p) (output_names p) (among_actuators ∙ no_actuator)
          ∙ (among_outputs (0 + length (sensor_names p) + length (actuator_names p)) ∙ ap (λ i. position_from (λ (o : Output). same_name o.name x) i outputs) number)

      pub output_slot : (k : ℕ) → position_from (λ (o : Output). same_name o.name x) 0 outputs ≡ Some k → slot_of p None x ≡ Some (length sensors + length actuators + k)
      output_slot k e = behind_actuators ∙ place_from (λ (o : Output). same_name o.name x) (length sensors + length actuators) outputs ∙ ap (option_map (λ n. length sensors + length actuators + n)) e

      pub no_slot : position_from (λ (o : Output). same_name o.name x) 0 outputs ≡ None → slot_of p None x ≡ None
      no_slot e = behind_actuators ∙ place_from (λ (o : Output). same_name o.name x) (length sensors + length actuators) outputs ∙ ap (option_map (λ n. length sensors + length actuators + n)) e
