-- Switches by their places: the mode entered, the ports after a switch, and the exit that represents a switch.
use Rattle.std.specs.Prelude.{ℕ, Option, ◌≡◌, None, IsSomeAnd, MatchOption, List, map, ℤ}
use Rattle.std.specs.Option.{option_map_or, option_and_then}
use Rattle.giotto_tasks.specs.Names.{Valuation}
use Rattle.rig_model.specs.text.Program.{ModeDeclaration, GiottoProgram, ModeSwitch}
use Rattle.rig_model.specs.Switches.{switch_taken, with_destinations}
use Rattle.giotto_check.specs.cited.Timetables.{place_of_mode, IsExit, value_over}
use Rattle.std.specs.Borrow.{Bor}
use Rattle.giotto_check.specs.declared.timetables.SlotExit.{SlotExit}
use Rattle.giotto_check.specs.declared.timetables.SlotDestination.{SlotDestination}

-- the ports after the mode's switches: those after the switch that is taken, or unchanged ones if none is
abbrev pub ports_switched : ModeDeclaration → ℕ → Valuation → Valuation
ports_switched m time ports = option_map_or (λ s. with_destinations s ports) (switch_taken m time ports) ports

-- the place of the mode that is entered, if a switch is taken
abbrev pub place_entered : GiottoProgram → ModeDeclaration → ℕ → Valuation → Option ℕ
place_entered p m time ports = option_and_then (λ s. place_of_mode p s.target) (switch_taken m time ports)

-- the exit is that of this switch, and there is none if there is no switch
abbrev pub IsExitOf : GiottoProgram → ModeDeclaration → Option ModeSwitch → Option (Bor SlotExit) → Type 0
IsExitOf p m taken found = MatchOption found (taken ≡ None) (λ exit. IsSomeAnd taken (λ s. IsExit p m s exit.now))

-- the slots of numbered destinations, and the values that they get
abbrev pub slots_given : List SlotDestination → List ℕ
slots_given ds = map (λ (d : SlotDestination). d.output) ds

abbrev pub values_given : List SlotDestination → List ℤ → List ℤ
values_given ds values = map (λ (d : SlotDestination). value_over d.value values) ds
