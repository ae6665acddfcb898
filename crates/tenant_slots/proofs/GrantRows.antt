-- Values granted to each name of a small program, computed from the definitions.
use Rattle.std.proofs.Common.{◌≡◌, ℤ, pos, negsuc, [], ◌∷◌, None, refl}
use Rattle.std.specs.Prelude.{codes}
use Rattle.giotto_tasks.specs.Names.{Valuation}
use Rattle.rig_model.specs.text.Program.{from_line, from_grant, GiottoProgram}
use Rattle.rig_model.specs.Ports.{initial_ports}
use Rattle.rig_model.specs.Readings.{Readings}
use Rattle.tenant_slots.specs.cited.Grants.{with_granted, with_each_granted}
use Rattle.tenant_slots.specs.cited.Readings.{with_readings}

-- sensor s := 0 line 3; sensor g := -1 grant; sensor h := -2 grant; actuator a := 0;
abbrev reader : GiottoProgram
reader = record {
  sensors = record { name = codes "s"; initial = pos 0; source = from_line 3 } ∷ record { name = codes "g"; initial = negsuc 0; source = from_grant } ∷ record { name = codes "h"; initial = negsuc 1; source = from_grant } ∷ [];
  actuators = record { name = codes "a"; initial = pos 0; line = None } ∷ [];
  outputs = [];
  tasks = [];
  modes = record { name = codes "m"; period = 1; updates = []; switches = []; invocations = [] } ∷ [];
  start = codes "m";
}

abbrev ports : ℤ → ℤ → ℤ → ℤ → Valuation
ports s g h a = (codes "s", s) ∷ (codes "g", g) ∷ (codes "h", h) ∷ (codes "a", a) ∷ []

pub grant_sensor_takes_it : with_granted reader (codes "g") (pos 7) (ports (pos 1) (pos 2) (pos 3) (pos 4)) ≡ ports (pos 1) (pos 7) (pos 3) (pos 4)
grant_sensor_takes_it = refl

pub line_sensor_takes_nothing : with_granted reader (codes "s") (pos 7) (ports (pos 1) (pos 2) (pos 3) (pos 4)) ≡ ports (pos 1) (pos 2) (pos 3) (pos 4)
line_sensor_takes_nothing = refl

pub actuator_takes_nothing : with_granted reader (codes "a") (pos 7) (ports (pos 1) (pos 2) (pos 3) (pos 4)) ≡ ports (pos 1) (pos 2) (pos 3) (pos 4)
actuator_takes_nothing = refl

pub no_port_takes_nothing : with_granted reader (codes "m") (pos 7) (ports (pos 1) (pos 2) (pos 3) (pos 4)) ≡ ports (pos 1) (pos 2) (pos 3) (pos 4)
no_port_takes_nothing = refl

-- line 3 has the value 5, and values are granted to g, a and s

abbrev frame : Readings
frame = (3, pos 5) ∷ []

abbrev granted : Valuation
granted = (codes "g", pos 7) ∷ (codes "a", pos 8) ∷ (codes "s", pos 9) ∷ []

pub nothing_granted : with_readings reader frame [] (initial_ports reader) ≡ ports (pos 5) (negsuc 0) (negsuc 1) (pos 0)
nothing_granted = refl

pub all_granted : with_readings reader frame granted (initial_ports reader) ≡ ports (pos 5) (pos 7) (negsuc 1) (pos 0)
all_granted = refl

pub granted_one_by_one : with_each_granted reader granted (ports (pos 5) (negsuc 0) (negsuc 1) (pos 0)) ≡ ports (pos 5) (pos 7) (negsuc 1) (pos 0)
granted_one_by_one = refl
