-- Lists of the values of all ports, compared with the maps of the definitions.
use Rattle.std.specs.Prelude.{ℕ, length, IsTrue, ◌≡◌, ℤ, List, Some, map, None, [], ◌∷◌, slice_set, ◌+◌, ◌++◌, take, drop}
use Rattle.giotto_rules.specs.text.Program.{GiottoProgram}
use Rattle.giotto_rules.specs.Ports.{ports_of, ProgramPort, slot_of}
use Rattle.giotto_check.specs.Slots.{port_names, valuation_of}
use Rattle.giotto_tasks.specs.Sound.{all_different}
use Rattle.giotto_tasks.specs.declared.names.Name.{Name}
use Rattle.giotto_tasks.specs.Names.{values_of, Valuation}
use Rattle.giotto_rules.specs.text.PortNames.{own_ports, with_values}

-- the length of a list of the values of all ports
abbrev pub slots_of : GiottoProgram → ℕ
slots_of p = length (ports_of p)

-- no two ports of the program have the same displayed name
abbrev pub PortNamesDiffer : GiottoProgram → Type 0
PortNamesDiffer p = IsTrue (all_different (port_names p))

-- the values of all ports of a program in which no two ports have the same displayed name
pub record AreValuesOf (p : GiottoProgram) (values : List ℤ) : Type 0 where
  pub ports_once : PortNamesDiffer p
  pub long : length values ≡ slots_of p

-- the port has this slot
abbrev pub HasSlot : GiottoProgram → ProgramPort → ℕ → Type 0
HasSlot p port k = slot_of p port.task port.name ≡ Some k

-- these sensors, actuators and outputs have these slots
abbrev pub HaveSlots : GiottoProgram → List Name → List ℕ → Type 0
HaveSlots p names slots = map (slot_of p None) names ≡ map Some slots

-- the values of these ports of a task
abbrev pub own_values : GiottoProgram → List ℤ → Name → List Name → List ℤ
own_values p values t names = values_of (valuation_of p values) (own_ports t names)

-- the map with these values for these ports of a task
abbrev pub with_own_values : GiottoProgram → List ℤ → Name → List Name → List ℤ → Valuation
with_own_values p values t names zs = with_values (valuation_of p values) (own_ports t names) zs

-- the list with these numbers at these slots, one after the other
abbrev pub with_slots : List ℤ → List ℕ → List ℤ → List ℤ
with_slots values [] zs = values
with_slots values (k ∷ ks) [] = values
with_slots values (k ∷ ks) (z ∷ zs) = with_slots (slice_set values k z) ks zs

-- the list with these numbers from a slot on
abbrev pub with_range : List ℤ → ℕ → List ℤ → List ℤ
with_range values first zs = take first values ++ (zs ++ drop (first + length zs) values)
