-- The lines of a program's sensors and actuators, as loops over them see them.
use Rattle.std.proofs.Common.{ℕ, List, [], map}
use Rattle.rig_model.specs.declared.text.programs.Actuator.{Actuator}
use Rattle.rig_model.specs.declared.text.programs.Sensor.{Sensor}
use Rattle.rig_model.specs.text.Program.{GiottoProgram}
use Rattle.rig_model.specs.text.ProgramTrees.{sensor_of, actuator_of}
use Rattle.rig_model.specs.rules.Declarations.{lines_read, lines_written}

abbrev only_with : List Sensor → List Actuator → GiottoProgram
only_with sensors actuators = record { sensors = map sensor_of sensors; actuators = map actuator_of actuators; outputs = []; tasks = []; modes = []; start = [] }

abbrev pub lines_of_sensors : List Sensor → List ℕ
lines_of_sensors sensors = lines_read (only_with sensors [])

abbrev pub lines_of_actuators : List Actuator → List ℕ
lines_of_actuators actuators = lines_written (only_with [] actuators)
