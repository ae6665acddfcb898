-- The values that small programs keep of the program that they replace, computed from the definitions.
use Rattle.std.proofs.Common.{◌≡◌, pos, negsuc, List, [], ◌∷◌, None, refl}
use Rattle.std.specs.Prelude.{codes}
use Rattle.giotto_tasks.specs.Names.{Valuation}
use Rattle.giotto_tasks.specs.Syntax.{finished}
use Rattle.rig_model.specs.text.Program.{from_line, from_grant, SensorDeclaration, ActuatorDeclaration, GiottoProgram}
use Rattle.rig_model.specs.Replacement.{carried_ports}

-- these sensors and actuators, and also: output o := 1; task T(x) output o state n := 2 { }
abbrev program_of : List SensorDeclaration → List ActuatorDeclaration → GiottoProgram
program_of sensors actuators = record {
  sensors = sensors;
  actuators = actuators;
  outputs = record { name = codes "o"; initial = pos 1 } ∷ [];
  tasks = record { name = codes "T"; inputs = codes "x" ∷ []; outputs = codes "o" ∷ []; states = (codes "n", pos 2) ∷ []; block = finished } ∷ [];
  modes = record { name = codes "m"; period = 1; updates = []; switches = []; invocations = [] } ∷ [];
  start = codes "m";
}

-- sensor s := 10 line 0; actuator a := 20;
abbrev running : GiottoProgram
running = program_of (record { name = codes "s"; initial = pos 10; source = from_line 0 } ∷ []) (record { name = codes "a"; initial = pos 20; line = None } ∷ [])

-- its ports
abbrev ports : Valuation
ports = (codes "s", pos 5) ∷ (codes "a", negsuc 5) ∷ (codes "o", pos 7) ∷ (codes "T.x", pos 8) ∷ (codes "T.n", pos 9) ∷ []

-- the same program again: its sensor and its actuator keep their values, and all other ports are initial
pub itself : carried_ports ports running running ≡ (codes "s", pos 5) ∷ (codes "a", negsuc 5) ∷ (codes "o", pos 1) ∷ (codes "T.x", pos 0) ∷ (codes "T.n", pos 2) ∷ []
itself = refl

-- actuator s := 30; actuator a := 40;
abbrev sensor_became_actuator : GiottoProgram
sensor_became_actuator = program_of [] (record { name = codes "s"; initial = pos 30; line = None } ∷ record { name = codes "a"; initial = pos 40; line = None } ∷ [])

pub kind_changed : carried_ports ports running sensor_became_actuator ≡ (codes "s", pos 30) ∷ (codes "a", negsuc 5) ∷ (codes "o", pos 1) ∷ (codes "T.x", pos 0) ∷ (codes "T.n", pos 2) ∷ []
kind_changed = refl

-- sensor g := 50 grant; sensor s := 60 grant; actuator b := 70;
abbrev other_places : GiottoProgram
other_places = program_of (record { name = codes "g"; initial = pos 50; source = from_grant } ∷ record { name = codes "s"; initial = pos 60; source = from_grant } ∷ []) (record { name = codes "b"; initial = pos 70; line = None } ∷ [])

-- a sensor keeps its value wherever it is declared and whatever it reads
pub elsewhere : carried_ports ports running other_places ≡ (codes "g", pos 50) ∷ (codes "s", pos 5) ∷ (codes "b", pos 70) ∷ (codes "o", pos 1) ∷ (codes "T.x", pos 0) ∷ (codes "T.n", pos 2) ∷ []
elsewhere = refl
