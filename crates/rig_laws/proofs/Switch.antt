-- Switches and installation, computed from the definitions.
use Rattle.std.proofs.Common.{◌≡◌, pos, List, [], ◌∷◌, ◌++◌, refl, reverse, Some}
use Rattle.std.specs.Prelude.{codes}
use Rattle.std.specs.Fmt.{digits}
use Rattle.rig_model.specs.declared.events.Event.{Event}
use Rattle.rig_model.specs.declared.events.Event.TheVariants.{Own}
use Rattle.rig_model.specs.declared.lines.commands.Command.TheVariants.{Load, Start, Stop, ShowMode, ShowAll}
use Rattle.rig_model.specs.declared.trace.records.Happening.TheVariants as happening
use Rattle.rig_model.specs.Answers.{answers_of}
use Rattle.rig_model.specs.Views.{row_of}
use Rattle.rig_model.specs.FirstHalf.{first_half_of}
use Rattle.rig_model.specs.Row.{Row}
use Rattle.rig_model.specs.SecondHalf.{second_half_of}
use Rattle.rig_laws.proofs.FirstRun.{answered, tick, completed, first_run}
use Rattle.rig_laws.proofs.Rig.{rig}
use Rattle.rig_model.proofs.of_rules.ExamplePrograms.{switcher_text, two_constants}

-- T of period 3 is released at instant 0. At the switch, at mode time 2, it is unfinished, one tick before its deadline. So mode n, of period
-- 9, is entered at mode time 8, one tick before its end.
abbrev switched_run : List Event
switched_run = Own 0 (Load switcher_text) ∷ Own 0 Start ∷ tick 1 ∷ tick 2 ∷ tick 5 ∷ []

pub switched_mode : (row_of rig (reverse switched_run) 0).mode ≡ codes "n"
switched_mode = refl

pub switched_time : (row_of rig (reverse switched_run) 0).mode_time ≡ 0
switched_time = refl

pub switched_records : (row_of rig (reverse switched_run) 0).records
    ≡ record { tick = 2; happening = happening.Mode (codes "n") } ∷ record { tick = 0; happening = happening.Start (codes "m") } ∷ []
switched_records = refl

-- what alpha is shown there, and after a stop
pub switched_answers : answers_of rig (reverse (switched_run ++ Own 0 ShowMode ∷ Own 0 ShowAll ∷ Own 0 Stop ∷ Own 0 ShowMode ∷ [])) 0
    ≡ answered (codes "ok load" ∷ codes "ok start" ∷ codes "ok mode running n 0" ∷ codes "ok all s=5 o=0 T.i=1" ∷ codes "ok stop" ∷ codes "ok mode stopped asked" ∷ [])
unfolding digits
switched_answers = refl

-- T continues in n and ends there, with the input that it read at its release.
pub switched_output : (row_of rig (reverse (switched_run ++ completed 0 0 ∷ tick 3 ∷ [])) 0).ports
    ≡ (codes "s", pos 3) ∷ (codes "o", pos 2) ∷ (codes "T.i", pos 3) ∷ []
switched_output = refl

-- A program that waits while the adder runs is installed when the adder's period ends: the old outputs are written first, and the actuator
-- of the same name keeps its value.
abbrev waiting : Row
waiting = record (row_of rig (reverse (first_run ++ tick 3 ∷ completed 0 2 ∷ [])) 0) { waiting = Some two_constants }

pub installed_ports : (second_half_of ((0, pos 4) ∷ []) [] (first_half_of [] waiting)).ports ≡ (codes "a", pos 10) ∷ (codes "b", pos 7) ∷ []
installed_ports = refl

pub installed_mode : (second_half_of ((0, pos 4) ∷ []) [] (first_half_of [] waiting)).mode ≡ codes "k"
installed_mode = refl
