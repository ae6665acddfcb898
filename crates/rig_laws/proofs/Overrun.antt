-- Overruns, and completions that come late or for a job that was never released, computed from the definitions.
use Rattle.std.proofs.Common.{◌≡◌, ℕ, pos, List, [], ◌∷◌, ◌++◌, refl, true, false, reverse}
use Rattle.std.specs.Prelude.{codes}
use Rattle.std.specs.Fmt.{digits}
use Rattle.rig_model.specs.declared.events.Event.{Event}
use Rattle.rig_model.specs.declared.trace.records.Record.{Record}
use Rattle.rig_model.specs.declared.trace.records.Happening.TheVariants as happening
use Rattle.rig_model.specs.Answers.{answers_of}
use Rattle.rig_model.specs.Legal.{is_legal, counts}
use Rattle.rig_model.specs.Views.{row_of}
use Rattle.rig_model.specs.Row.{running, stopped, overrun}
use Rattle.rig_laws.proofs.FirstRun.{answered, tick, completed, shown, loaded_and_started, first_run}
use Rattle.rig_laws.proofs.Rig.{rig}

-- T is due at instant 2 and not completed.
pub overrun_state : (row_of rig (reverse (loaded_and_started 0 ++ tick 5 ∷ tick 7 ∷ tick 9 ∷ [])) 0).state ≡ stopped (overrun (codes "T"))
overrun_state = refl

-- After the first run the next release overruns: the actuator is initial again, and the output and the sensor keep their values.
abbrev pub run_into_overrun : List Event
run_into_overrun = first_run ++ tick 11 ∷ tick 13 ∷ shown 0 (codes "a") ∷ shown 0 (codes "o") ∷ shown 0 (codes "s") ∷ []

pub answers_run_into_overrun : answers_of rig (reverse run_into_overrun) 0
    ≡ answered (codes "ok load" ∷ codes "ok start" ∷ codes "ok port a 6" ∷ codes "ok port a 0" ∷ codes "ok port o 6" ∷ codes "ok port s 11" ∷ [])
unfolding digits
answers_run_into_overrun = refl

-- the records of that run, the newest first
abbrev at : ℕ → happening.the_data → Record
at n h = record { tick = n; happening = h }

pub records_run_into_overrun : (row_of rig (reverse run_into_overrun) 0).records
    ≡ at 4 (happening.Overrun (codes "T")) ∷ at 2 (happening.Act (codes "a") (pos 6)) ∷ at 2 (happening.Out (codes "o") (pos 6))
    ∷ at 0 (happening.Act (codes "a") (pos 0)) ∷ at 0 (happening.Start (codes "m")) ∷ []
records_run_into_overrun = refl

-- alpha overruns, is loaded and started again, and its task is released again at instant 3
abbrev again : List Event
again = loaded_and_started 0 ++ tick 5 ∷ tick 7 ∷ tick 9 ∷ [] ++ (loaded_and_started 0 ++ tick 1 ∷ [])

-- the completion of the run that has ended is legal and doesn't count
pub late_completion_is_legal : is_legal rig (reverse (again ++ completed 0 0 ∷ tick 1 ∷ tick 1 ∷ [])) ≡ true
late_completion_is_legal = refl

pub late_completion_counts_not : counts rig (reverse again) (record { tenant = 0; tick = 0; task = codes "T" }) ≡ false
late_completion_counts_not = refl

pub late_completion : (row_of rig (reverse (again ++ completed 0 0 ∷ tick 1 ∷ tick 1 ∷ [])) 0).state ≡ stopped (overrun (codes "T"))
late_completion = refl

-- the completion of the new run counts, once
pub own_completion : (row_of rig (reverse (again ++ completed 0 3 ∷ tick 1 ∷ tick 1 ∷ [])) 0).state ≡ running
own_completion = refl

pub own_completion_counts : counts rig (reverse again) (record { tenant = 0; tick = 3; task = codes "T" }) ≡ true
own_completion_counts = refl

pub second_completion_counts_not : counts rig (reverse (again ++ completed 0 3 ∷ [])) (record { tenant = 0; tick = 3; task = codes "T" }) ≡ false
second_completion_counts_not = refl

-- a job that was never released can't be completed
pub never_released : is_legal rig (reverse (again ++ completed 0 1 ∷ [])) ≡ false
never_released = refl
