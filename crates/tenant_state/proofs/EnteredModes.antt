-- The switch that is taken, and the mode that it enters.
use Rattle.std.proofs.Common.{◌≡◌, ℕ, ◌<◌, ◌≤◌, ◌&&◌, true, false, cond, ℤ, List, [], ◌∷◌, length, Option, Some, None, ⊎_elim, refl, sym, ap, ◌∙◌, arith}
use Rattle.std.specs.Prelude.{is_some, slice_get}
use Rattle.std.specs.List.{find, AllByRecursion}
use Rattle.std.specs.Option.{option_and_then, option_map_or}
use Rattle.std.proofs.lemmas.Option.{slice_get_cases}
use Rattle.giotto_tasks.specs.Names.{Valuation, same_name}
use Rattle.rig_model.specs.text.Program.{ModeDeclaration, ModeSwitch, GiottoProgram}
use Rattle.rig_model.specs.rules.Declarations.{mode_named}
use Rattle.tenant_slots.specs.well_formed.Slots.{valuation_of}
use Rattle.tenant_slots.specs.well_formed.cited.Timetables.{place_of_mode}
use Rattle.tenant_slots.proofs.of_well_formed.PlaceLemmas.{found_there, place_if_found, place_within}
use Rattle.rig_model.specs.Due.{is_due_at}
use Rattle.rig_model.specs.Ports.{holds}
use Rattle.rig_model.specs.Switches.{switch_taken, with_destinations}
use Rattle.rig_model.specs.Row.{ActiveTask}
use Rattle.rig_model.specs.SecondHalf.{entry_time}
use Rattle.tenant_state.specs.inner.Tenants.{IsEntered}

-- if no switch is due, none is taken
pub none_taken : (m : ModeDeclaration) (time : ℕ) (ports : Valuation) (switches : List ModeSwitch) → AllByRecursion (λ (s : ModeSwitch). is_due_at time m s.frequency ≡ false) switches
    → find (λ (s : ModeSwitch). is_due_at time m s.frequency && holds s.guard ports) switches ≡ None
none_taken m time ports [] none = refl
none_taken m time ports (s ∷ switches) none =
    ap (λ b. cond (b && holds s.guard ports) (Some s) (find (λ (s : ModeSwitch). is_due_at time m s.frequency && holds s.guard ports) switches)) none.0
    ∙ none_taken m time ports switches none.1

-- a switch that is taken enters a mode of the program
pub target_within : (p : GiottoProgram) (o : Option ModeSwitch) (k : ℕ) → Some k ≡ option_and_then (λ (s : ModeSwitch). place_of_mode p s.target) o → k < length p.modes
target_within p None k e = absurd (cc)
target_within p (Some s) k e = let within = place_within (λ (m : ModeDeclaration). same_name m.name s.target) 0 p.modes k (sym e) in omega (arith, within)

-- so does a switch at any place, because none is taken at a place without a mode
pub entered_within : (p : GiottoProgram) (mode time : ℕ) (ports : Valuation) (k : ℕ)
    → ((m : ModeDeclaration) → slice_get p.modes mode ≡ Some m → Some k ≡ option_and_then (λ (s : ModeSwitch). place_of_mode p s.target) (switch_taken m time ports))
    → (length p.modes ≤ mode → Some k ≡ None) → k < length p.modes
entered_within p mode time ports k entered missing =
    ⊎_elim
    (λ found. target_within p (switch_taken found.0 time ports) k (entered found.0 found.2))
    (λ past. absurd (let none = missing past.0 in cc))
    (slice_get_cases p.modes mode).1

module _ (p : GiottoProgram) (m : ModeDeclaration) (time : ℕ) (active : List ActiveTask) (ports : Valuation) (k begins : ℕ) (values : List ℤ) where
  pub enters : Some k ≡ option_and_then (λ (s : ModeSwitch). place_of_mode p s.target) (switch_taken m time ports)
      → valuation_of p values ≡ option_map_or (λ s. with_destinations s ports) (switch_taken m time ports) ports
      → ((t : ModeDeclaration) → slice_get p.modes k ≡ Some t → begins ≡ entry_time m t time active)
      → IsEntered p m time active ports (record { mode = k; time = begins }) values
  enters place given time_of = by (switch_taken m time ports) refl
    where
      by : (o : Option ModeSwitch) → switch_taken m time ports ≡ o → IsEntered p m time active ports (record { mode = k; time = begins }) values
      by None taken = let none = place ∙ ap (option_and_then (λ (s : ModeSwitch). place_of_mode p s.target)) taken in absurd (cc)
      by (Some s) taken = at_target (mode_named p s.target) refl
        where
          here : place_of_mode p s.target ≡ Some k
          here = sym (place ∙ ap (option_and_then (λ (s : ModeSwitch). place_of_mode p s.target)) taken)

          at_target : (t : Option ModeDeclaration) → mode_named p s.target ≡ t → IsEntered p m time active ports (record { mode = k; time = begins }) values
          at_target None found =
              let none : true ≡ false = ap is_some (sym here) ∙ place_if_found (λ (m : ModeDeclaration). same_name m.name s.target) 0 p.modes ∙ ap is_some found in
              absurd (cc)
          at_target (Some t) found =
              let place = found_there (λ (m : ModeDeclaration). same_name m.name s.target) 0 p.modes k t here found in
              let there : slice_get p.modes k ≡ Some t = ap (slice_get p.modes) (omega (arith, place.1)) ∙ place.2 in
              record {
                switch = s;
                target = t;
                taken = taken;
                named = found;
                there = there;
                begins = time_of t there;
                given = given ∙ ap (λ o. option_map_or (λ s. with_destinations s ports) o ports) taken;
              }
