-- The slots and timetables of the example programs.
use Rattle.std.proofs.Common.{◌≡◌, ℕ, pos, List, [], ◌∷◌, Some, None, refl, sym}
use Rattle.std.specs.Prelude.{codes, Ok}
use Rattle.giotto_tasks.specs.Syntax.{number, port, binary, assign, finished, step}
use Rattle.giotto_tasks.specs.declared.operators.BinaryOperator.TheVariants.{Add, Greater}
use Rattle.giotto_tasks.proofs.cited.ListLemmas.{some_same}
use Rattle.giotto_rules.specs.text.Parsing.{parsed}
use Rattle.giotto_rules.specs.text.Program.{from_line, TaskDeclaration, ActuatorUpdate, ModeSwitch, TaskInvocation, ModeDeclaration, GiottoProgram}
use Rattle.giotto_rules.proofs.of_text.Adder.{adder}
use Rattle.giotto_rules.specs.Rules.{first_broken_rule}
use Rattle.giotto_check.specs.Slots.{port_names, valuation_of}
use Rattle.giotto_rules.specs.Ports.{slot_of}
use Rattle.giotto_check.specs.cited.Slots.{slots_of}
use Rattle.giotto_check.specs.cited.Timetables.{HaveSlotsFrom, IsExit, IsInvocation, IsUpdate}
use Rattle.giotto_check.specs.declared.timetables.SlotExit.{SlotExit}
use Rattle.giotto_check.specs.declared.timetables.SlotInvocation.{SlotInvocation}
use Rattle.giotto_check.specs.declared.timetables.SlotUpdate.{SlotUpdate}

adder_ports : port_names adder ≡ codes "s" ∷ codes "a" ∷ codes "o" ∷ codes "T.i" ∷ []
adder_ports = refl

adder_input : slot_of adder (Some (codes "T")) (codes "i") ≡ Some 3
adder_input = refl

adder_values : valuation_of adder (pos 5 ∷ pos 6 ∷ pos 7 ∷ pos 8 ∷ []) ≡ (codes "s", pos 5) ∷ (codes "a", pos 6) ∷ (codes "o", pos 7) ∷ (codes "T.i", pos 8) ∷ []
adder_values = refl

-- two tasks with states, two modes and a switch
abbrev summer_text : List ℕ
summer_text =
    codes "sensor s := 0 line 0; actuator a := 0; output o := 0; output p := 0; task T(i) output o state k := 0 { k := k + i; o := k; } task U(i, j) output p state k := 5 { p := i + k; } mode m period 6 { actfreq 2 do a := o; exitfreq 3 if o > 4 do n { p := s; }; taskfreq 2 do T(s); } mode n period 9 { taskfreq 3 do T(s); taskfreq 1 do U(s, o); } start m;"

abbrev first_task : TaskDeclaration
first_task = record {
  name = codes "T";
  inputs = codes "i" ∷ [];
  outputs = codes "o" ∷ [];
  states = (codes "k", pos 0) ∷ [];
  block = step (assign (codes "k") (binary Add (port (codes "k")) (port (codes "i")))) (step (assign (codes "o") (port (codes "k"))) finished);
}

abbrev second_task : TaskDeclaration
second_task = record {
  name = codes "U";
  inputs = codes "i" ∷ codes "j" ∷ [];
  outputs = codes "p" ∷ [];
  states = (codes "k", pos 5) ∷ [];
  block = step (assign (codes "p") (binary Add (port (codes "i")) (port (codes "k")))) finished;
}

abbrev update : ActuatorUpdate
update = record { frequency = 2; guard = None; actuator = codes "a"; value = port (codes "o") }

abbrev switch : ModeSwitch
switch = record { frequency = 3; guard = Some (binary Greater (port (codes "o")) (number (pos 4))); target = codes "n"; destinations = (codes "p", port (codes "s")) ∷ [] }

abbrev invocation : TaskInvocation
invocation = record { frequency = 1; guard = None; task = codes "U"; arguments = port (codes "s") ∷ port (codes "o") ∷ [] }

abbrev first_mode : ModeDeclaration
first_mode = record {
  name = codes "m";
  period = 6;
  updates = update ∷ [];
  switches = switch ∷ [];
  invocations = record { frequency = 2; guard = None; task = codes "T"; arguments = port (codes "s") ∷ [] } ∷ [];
}

abbrev second_mode : ModeDeclaration
second_mode = record {
  name = codes "n";
  period = 9;
  updates = [];
  switches = [];
  invocations = record { frequency = 3; guard = None; task = codes "T"; arguments = port (codes "s") ∷ [] } ∷ invocation ∷ [];
}

abbrev summer : GiottoProgram
summer = record {
  sensors = record { name = codes "s"; initial = pos 0; source = from_line 0 } ∷ [];
  actuators = record { name = codes "a"; initial = pos 0; line = None } ∷ [];
  outputs = record { name = codes "o"; initial = pos 0 } ∷ record { name = codes "p"; initial = pos 0 } ∷ [];
  tasks = first_task ∷ second_task ∷ [];
  modes = first_mode ∷ second_mode ∷ [];
  start = codes "m";
}

summer_parsed : parsed summer_text ≡ Ok summer
summer_parsed = refl

summer_is_well_formed : first_broken_rule summer ≡ None
summer_is_well_formed = refl

summer_ports : port_names summer ≡ codes "s" ∷ codes "a" ∷ codes "o" ∷ codes "p" ∷ codes "T.i" ∷ codes "T.k" ∷ codes "U.i" ∷ codes "U.j" ∷ codes "U.k" ∷ []
summer_ports = refl

summer_slots : slots_of summer ≡ 9
summer_slots = refl

-- an input or a state is a port only of its own task
output_slot : slot_of summer None (codes "p") ≡ Some 3
output_slot = refl

state_slot : slot_of summer (Some (codes "U")) (codes "k") ≡ Some 8
state_slot = refl

no_state : slot_of summer None (codes "k") ≡ None
no_state = refl

no_input : slot_of summer (Some (codes "T")) (codes "j") ≡ None
no_input = refl

inputs_in_a_row : HaveSlotsFrom summer (codes "U") second_task.inputs 6
inputs_in_a_row = refl

states_behind : HaveSlotsFrom summer (codes "U") (codes "k" ∷ []) 8
states_behind = refl

-- every 3 ticks, to the actuator in slot 1
update_numbers : (entry : SlotUpdate) → IsUpdate summer first_mode update entry → (entry.interval ≡ 3) × (entry.actuator ≡ 1)
update_numbers entry is = (is.interval, some_same entry.actuator 1 (sym is.actuator))

-- every 2 ticks, to the second mode
exit_numbers : (entry : SlotExit) → IsExit summer first_mode switch entry → (entry.interval ≡ 2) × (entry.target ≡ 1)
exit_numbers entry is = (is.interval, some_same entry.target 1 (sym is.target))

-- every 9 ticks, the second task
invocation_numbers : (entry : SlotInvocation) → IsInvocation summer second_mode invocation entry → (entry.interval ≡ 9) × (entry.task ≡ 1)
invocation_numbers entry is = (is.interval, some_same entry.task 1 (sym is.task))
