-- The adder's runs: the answers to alpha, computed from the definitions.
use Rattle.std.proofs.Common.{◌≡◌, ℕ, pos, List, [], ◌∷◌, ◌++◌, refl, true, reverse, None}
use Rattle.std.specs.Prelude.{codes}
use Rattle.std.specs.Fmt.{digits}
use Rattle.std.specs.List.{flat_map}
use Rattle.rig_model.specs.declared.events.Event.{Event}
use Rattle.rig_model.specs.declared.events.Event.TheVariants.{Own, Tick, Done}
use Rattle.rig_model.specs.declared.lines.commands.Command.TheVariants.{Load, Start, ShowPort}
use Rattle.rig_model.specs.Answers.{answers_of}
use Rattle.rig_model.specs.Legal.{is_legal}
use Rattle.rig_model.specs.Views.{view_of}
use Rattle.rig_model.proofs.of_text.Adder.{adder_text}
use Rattle.rig_laws.proofs.Rig.{rig}

-- lines, each followed by LF
abbrev pub answered : List (List ℕ) → List ℕ
answered lines = flat_map (λ l. l ++ 10 ∷ []) lines

abbrev pub tick : ℕ → Event
tick v = Tick (pos v ∷ [])

-- the completion of tenant t's job of T that was released at a tick
abbrev pub completed : ℕ → ℕ → Event
completed t release = Done (record { tenant = t; tick = release; task = codes "T" })

-- `show port` of a port that isn't a task's own
abbrev pub shown : ℕ → List ℕ → Event
shown t port = Own t (ShowPort (record { task = None; name = port }))

abbrev pub loaded_and_started : ℕ → List Event
loaded_and_started t = Own t (Load adder_text) ∷ Own t Start ∷ []

-- The inputs are those of the release: the adder reads 5 at its release and writes 6 at its deadline, though the sensor has become 7 and 9.
abbrev pub first_run : List Event
first_run = loaded_and_started 0 ++ tick 5 ∷ tick 7 ∷ completed 0 0 ∷ tick 9 ∷ shown 0 (codes "a") ∷ []

pub answers_first_run : answers_of rig (reverse first_run) 0 ≡ answered (codes "ok load" ∷ codes "ok start" ∷ codes "ok port a 6" ∷ [])
unfolding digits
answers_first_run = refl

pub first_run_is_legal : is_legal rig (reverse first_run) ≡ true
first_run_is_legal = refl

-- Completing the work earlier changes no byte.
abbrev pub early_work : List Event
early_work = loaded_and_started 0 ++ tick 5 ∷ completed 0 0 ∷ tick 7 ∷ tick 9 ∷ shown 0 (codes "a") ∷ []

pub same_view_early_work : view_of rig (reverse early_work) 0 ≡ view_of rig (reverse first_run) 0
same_view_early_work = refl

pub answers_early_work : answers_of rig (reverse early_work) 0 ≡ answered (codes "ok load" ∷ codes "ok start" ∷ codes "ok port a 6" ∷ [])
unfolding digits
answers_early_work = refl

-- Nothing is written before the deadline.
pub answers_before_deadline : answers_of rig (reverse (loaded_and_started 0 ++ tick 5 ∷ completed 0 0 ∷ tick 7 ∷ shown 0 (codes "o") ∷ [])) 0
    ≡ answered (codes "ok load" ∷ codes "ok start" ∷ codes "ok port o 0" ∷ [])
unfolding digits
answers_before_deadline = refl

-- Beta's commands and work, in between and with other readings of no line of alpha's, don't change alpha's view.
abbrev pub beside_beta : List Event
beside_beta =
    Own 1 (Load adder_text) ∷ Own 0 (Load adder_text) ∷ Own 1 Start ∷ Own 0 Start ∷ tick 5 ∷ completed 1 0 ∷ shown 1 (codes "a")
    ∷ tick 7 ∷ Own 1 (Load adder_text) ∷ completed 0 0 ∷ tick 9 ∷ shown 1 (codes "o") ∷ shown 0 (codes "a") ∷ []

pub beside_beta_is_legal : is_legal rig (reverse beside_beta) ≡ true
beside_beta_is_legal = refl

pub same_view_beside_beta : view_of rig (reverse beside_beta) 0 ≡ view_of rig (reverse first_run) 0
same_view_beside_beta = refl

pub same_answers_beside_beta : answers_of rig (reverse beside_beta) 0 ≡ answers_of rig (reverse first_run) 0
same_answers_beside_beta = refl

pub answers_of_beta : answers_of rig (reverse beside_beta) 1
    ≡ answered (codes "ok load" ∷ codes "ok start" ∷ codes "ok port a 0" ∷ codes "err running" ∷ codes "ok port o 6" ∷ [])
unfolding digits
answers_of_beta = refl
