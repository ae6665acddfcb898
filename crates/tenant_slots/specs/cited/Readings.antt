-- The ports after the readings.
use Rattle.std.specs.Prelude.{map}
use Rattle.giotto_tasks.specs.Names.{Valuation}
use Rattle.rig_model.specs.text.Program.{GiottoProgram}
use Rattle.rig_model.specs.text.PortNames.{with_values}
use Rattle.rig_model.specs.rules.Declarations.{sensor_names}
use Rattle.rig_model.specs.Readings.{Readings, reading_taken}

-- the ports after the readings: each sensor has what it takes, and all other ports are unchanged
abbrev pub with_readings : GiottoProgram → Readings → Valuation → Valuation → Valuation
with_readings p readings granted ports = with_values ports (sensor_names p) (map (reading_taken readings granted) p.sensors)
