-- Values that pass from tenant to tenant, computed from the definitions.
use Rattle.std.proofs.Common.{◌≡◌, ℕ, List, [], ◌∷◌, ◌++◌, refl, reverse}
use Rattle.std.specs.Prelude.{codes, None}
use Rattle.std.specs.Fmt.{digits}
use Rattle.rig_model.specs.declared.events.Event.{Event}
use Rattle.rig_model.specs.declared.events.Event.TheVariants.{Own}
use Rattle.rig_model.specs.declared.lines.commands.Command.TheVariants.{Load, Start, Grants}
use Rattle.rig_model.specs.declared.lines.grant_lines.GrantCommand.TheVariants.{Offer, Unoffer, Bind}
use Rattle.rig_model.specs.Answers.{answers_of}
use Rattle.rig_model.proofs.of_text.Adder.{adder_text}
use Rattle.rig_laws.proofs.FirstRun.{answered, tick, completed, shown}
use Rattle.rig_laws.proofs.Rig.{rig}

-- a sensor that nothing but a grant can change
abbrev pub consumer_text : List ℕ
consumer_text = codes "sensor g := -1 grant; mode n period 1 { } start n;"

-- adds this to the granted value, and drives an actuator with the sum of the tick before
abbrev adding_text : List ℕ → List ℕ
adding_text n = codes "sensor g := -1 grant; actuator a := 0; output o := 0; task T(i) output o { o := i + " ++ (n ++ codes "; } mode m period 1 { actfreq 1 do a := o; taskfreq 1 do T(g); } start m;")

abbrev offered_to : ℕ → List ℕ → Event
offered_to t tenant = Own t (Grants (Offer (codes "a") tenant None))

abbrev pub bound_to : ℕ → List ℕ → Event
bound_to t tenant = Own t (Grants (Bind (codes "g") tenant (codes "a")))

-- alpha runs the adder, and beta is bound to its actuator; two instants later, at the third, the sum of the first is written
abbrev along : List Event
along =
    Own 0 Start ∷ Own 1 Start ∷ tick 5 ∷ tick 7 ∷ completed 0 0 ∷ tick 9 ∷ shown 1 (codes "g")
    ∷ Own 0 (Grants (Unoffer (codes "a") (codes "beta"))) ∷ tick 11 ∷ shown 1 (codes "g") ∷ []

abbrev pub granted_run : List Event
granted_run = Own 0 (Load adder_text) ∷ offered_to 0 (codes "beta") ∷ Own 1 (Load consumer_text) ∷ bound_to 1 (codes "alpha") ∷ along

pub consumer_sees_the_sum : answers_of rig (reverse granted_run) 1 ≡ answered (codes "ok load" ∷ codes "ok bind" ∷ codes "ok start" ∷ codes "ok port g 6" ∷ codes "ok port g -1" ∷ [])
unfolding digits
consumer_sees_the_sum = refl

pub supplier_is_answered : answers_of rig (reverse granted_run) 0 ≡ answered (codes "ok load" ∷ codes "ok offer" ∷ codes "ok start" ∷ codes "ok unoffer" ∷ [])
unfolding digits
supplier_is_answered = refl

-- Without the offer no value passes.
abbrev unoffered_run : List Event
unoffered_run = Own 0 (Load adder_text) ∷ Own 1 (Load consumer_text) ∷ bound_to 1 (codes "alpha") ∷ along

pub nothing_without_an_offer : answers_of rig (reverse unoffered_run) 1 ≡ answered (codes "ok load" ∷ codes "ok bind" ∷ codes "ok start" ∷ codes "ok port g -1" ∷ codes "ok port g -1" ∷ [])
unfolding digits
nothing_without_an_offer = refl

-- An empty supplier grants nothing; one with a program grants its actuator's value, though it doesn't run.
abbrev empty_supplier : List Event
empty_supplier =
    Own 1 (Load consumer_text) ∷ bound_to 1 (codes "alpha") ∷ Own 1 Start ∷ offered_to 0 (codes "beta") ∷ tick 0 ∷ shown 1 (codes "g")
    ∷ Own 0 (Load adder_text) ∷ tick 0 ∷ shown 1 (codes "g") ∷ []

pub nothing_from_an_empty_supplier : answers_of rig (reverse empty_supplier) 1 ≡ answered (codes "ok load" ∷ codes "ok bind" ∷ codes "ok start" ∷ codes "ok port g -1" ∷ codes "ok port g 0" ∷ [])
unfolding digits
nothing_from_an_empty_supplier = refl

-- Each is bound to the other: alpha adds 1 to what beta drives, and beta adds 10 to what alpha drives. Both take what the other drives at
-- the same instant, after its update.
abbrev mutual_run : List Event
mutual_run =
    Own 0 (Load (adding_text (codes "1"))) ∷ Own 1 (Load (adding_text (codes "10"))) ∷ offered_to 0 (codes "beta") ∷ offered_to 1 (codes "alpha") ∷ bound_to 0 (codes "beta") ∷ bound_to 1 (codes "alpha")
    ∷ Own 0 Start ∷ Own 1 Start ∷ tick 0 ∷ completed 0 0 ∷ completed 1 0 ∷ tick 0 ∷ shown 0 (codes "g") ∷ shown 0 (codes "a") ∷ shown 1 (codes "g") ∷ shown 1 (codes "a")
    ∷ completed 0 1 ∷ completed 1 1 ∷ tick 0 ∷ shown 0 (codes "g") ∷ shown 0 (codes "a") ∷ shown 1 (codes "g") ∷ shown 1 (codes "a") ∷ []

pub alpha_sees_beta : answers_of rig (reverse mutual_run) 0
    ≡ answered (codes "ok load" ∷ codes "ok offer" ∷ codes "ok bind" ∷ codes "ok start" ∷ codes "ok port g 10" ∷ codes "ok port a 1" ∷ codes "ok port g 11" ∷ codes "ok port a 11" ∷ [])
unfolding digits
alpha_sees_beta = refl

pub beta_sees_alpha : answers_of rig (reverse mutual_run) 1
    ≡ answered (codes "ok load" ∷ codes "ok offer" ∷ codes "ok bind" ∷ codes "ok start" ∷ codes "ok port g 1" ∷ codes "ok port a 10" ∷ codes "ok port g 11" ∷ codes "ok port a 11" ∷ [])
unfolding digits
beta_sees_alpha = refl
