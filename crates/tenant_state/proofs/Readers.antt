-- What a host reads of a tenant's row, by the tenant's fields.
use Rattle.std.proofs.Common.{◌≡◌, ℕ, zero, suc, ◌+◌, ◌<◌, ◌%◌, ◌==◌, nat_eq, Bool, true, false, cond, ◌&&◌, ℤ, List, [], ◌∷◌, ◌++◌, map, filter, find, length, is_some, Option, Some, None, refl, sym, ap, ◌∙◌, append_assoc, arith}
use Rattle.std.specs.Prelude.{slice_get, option_and_then, option_map}
use Rattle.std.specs.List.{list_any, flat_map, position_from, AllByRecursion}
use Rattle.std.proofs.lemmas.Bool.{eq-eqb}
use Rattle.std.proofs.lemmas.List.{length-map}
use Rattle.std.proofs.lemmas.Option.{slice_get_within}
use Rattle.giotto_tasks.specs.declared.names.Name.{Name}
use Rattle.giotto_tasks.specs.Names.{Valuation, is_among, same_name, value_at}
use Rattle.giotto_tasks.proofs.cited.ListLemmas.{any_map, find_is_any, find_passes, found_has}
use Rattle.giotto_tasks.proofs.cited.NameLemmas.{any_is_among, same_name_is}
use Rattle.giotto_tasks.proofs.cited.TestLemmas.{and_true, and_false}
use Rattle.rig_model.specs.text.Program.{ActuatorDeclaration, ModeDeclaration, GiottoProgram}
use Rattle.rig_model.specs.text.ProgramTrees.{actuator_of, sensor_of}
use Rattle.rig_model.specs.declared.text.programs.Actuator.{Actuator}
use Rattle.rig_model.specs.declared.text.programs.Sensor.{Sensor}
use Rattle.rig_model.specs.rules.Declarations.{sensor_names, actuator_names, output_names}
use Rattle.tenant_slots.specs.well_formed.cited.Facts.{ProgramFits}
use Rattle.tenant_slots.specs.well_formed.Slots.{port_names, valuation_of}
use Rattle.rig_model.specs.rules.Ports.{ports_of, ports_of_task, shown_name}
use Rattle.tenant_slots.specs.well_formed.cited.Slots.{slots_of}
use Rattle.tenant_slots.specs.well_formed.cited.Timetables.{AreEach, IsInvocation}
use Rattle.giotto_check.specs.declared.timetables.SlotInvocation.{SlotInvocation}
use Rattle.tenant_slots.proofs.of_well_formed.PlaceLemmas.{passes_there, place-map, place_if_found}
use Rattle.tenant_slots.proofs.of_well_formed.SlotLemmas.{port_names_begin}
use Rattle.tenant_slots.proofs.of_well_formed.Valuations.{value_at_place}
use Rattle.rig_model.specs.Due.{is_due_at}
use Rattle.tenant_slots.specs.Places.{name_of_task}
use Rattle.tenant_slots.proofs.cited.Numbered.{invocation_due, mode_here, same_task}
use Rattle.rig_model.specs.declared.jobs.JobId.{JobId}
use Rattle.rig_model.specs.grants.Grants.{GrantRows}
use Rattle.rig_model.specs.config.Roster.{no_budgets}
use Rattle.tenant_state.specs.declared.tenants.Active.{Active}
use Rattle.tenant_state.specs.declared.tenants.State.TheVariants as states
use Rattle.rig_model.specs.FirstHalf.{names_due}
use Rattle.rig_model.specs.Jobs.{same_job, has_job, job_of}
use Rattle.rig_model.specs.Row.{ActiveTask, Row, actuator_value}
use Rattle.tenant_state.specs.Tenants.{active_of, standing_of}
use Rattle.rig_model.specs.LineValues.{drives, driver_of, line_value}
use Rattle.tenant_state.specs.inner.Tenants.{IsActiveOf, is_of_job}
use Rattle.tenant_state.proofs.DueTasks as tasks
use Rattle.tenant_state.proofs.DueTasks.{group, ends, names_of_tasks}
use Rattle.tenant_state.proofs.EndedTasks.{any_alike, some_of}
use Rattle.tenant_state.proofs.FirstHalfOf.{Runs, due_are}

-- whether a job of the tenant is active
pub job_active : (p : GiottoProgram) (t : ℕ) (j : JobId) → j.tenant ≡ t → (items : List Active) → list_any (is_of_job p j) items ≡ has_job t (map (active_of p) items) j
job_active p t j own [] = refl
job_active p t j own (a ∷ items) =
    let here : is_of_job p j a ≡ same_job (job_of t (active_of p a)) j =
    sym (ap (λ b. (b && nat_eq a.release j.tick) && same_name (name_of_task p a.task) j.task) (eq-eqb t j.tenant (sym own))) in
    let rest = job_active p t j own items in
    rw (here, rest) refl

-- an actuator of the program, by its place
module _ (p : GiottoProgram) (x : Name) where
  abbrev place : Option ℕ
  place = position_from (λ (d : ActuatorDeclaration). same_name d.name x) 0 p.actuators

  is_placed : position_from (λ n. same_name n x) 0 (actuator_names p) ≡ place
  is_placed = place-map (λ n. same_name n x) (λ (d : ActuatorDeclaration). d.name) 0 p.actuators

  is_declared : is_among (actuator_names p) x ≡ is_some place
  is_declared =
      let names = actuator_names p in
      sym (any_is_among names x) ∙ sym (find_is_any (λ n. same_name n x) names) ∙ sym (place_if_found (λ n. same_name n x) 0 names) ∙ ap is_some is_placed

  -- its value, if the program has it
  abbrev value_in : Valuation → Option ℤ
  value_in ports = cond (is_among (actuator_names p) x) (value_at ports x) None

  pub no_value : (ports : Valuation) → None ≡ place → None ≡ value_in ports
  no_value ports none = sym (ap (λ b. cond b (value_at ports x) None) (is_declared ∙ ap is_some (sym none)))

  -- its slot comes after those of the sensors
  module _ (ss : List Sensor) (sensors : map sensor_of ss ≡ p.sensors) (k : ℕ) (here : Some k ≡ place) where
    abbrev slot : ℕ
    slot = length ss + k

    name_there : slice_get (port_names p) slot ≡ Some x
    name_there =
        let rest = map shown_name (flat_map ports_of_task p.tasks) in
        let are : port_names p ≡ sensor_names p ++ (actuator_names p ++ (output_names p ++ rest)) =
        port_names_begin p ∙ append_assoc (sensor_names p) (actuator_names p ++ output_names p) rest ∙ ap (λ ns. sensor_names p ++ ns) (append_assoc (actuator_names p) (output_names p) rest) in
        let found = passes_there (λ n. same_name n x) 0 (actuator_names p) k (is_placed ∙ sym here) in
        let from : slot ≡ length (sensor_names p) + found.0 = omega (arith, found.2, ap length sensors, length-map ss sensor_of, length-map p.sensors (λ s. s.name)) in
        ap (λ ns. slice_get ns slot) are ∙ in_the_middle (sensor_names p) (actuator_names p) (output_names p ++ rest) slot found.0 found.1 from found.3 ∙ ap Some (same_name_is found.1 x found.4)
      where
        in_the_middle : (xs ys zs : List Name) (i j : ℕ) (y : Name) → i ≡ length xs + j → slice_get ys j ≡ Some y → slice_get (xs ++ (ys ++ zs)) i ≡ Some y
        in_the_middle [] [] zs i j y is at = absurd (cc)
        in_the_middle [] (z ∷ ys) zs i zero y is at = let first : i ≡ 0 = omega (arith, is) in ap (slice_get (z ∷ (ys ++ zs))) first ∙ at
        in_the_middle [] (z ∷ ys) zs zero (suc j) y is at = absurd (omega (arith, is))
        in_the_middle [] (z ∷ ys) zs (suc i) (suc j) y is at = in_the_middle [] ys zs i j y (omega (arith, is)) at
        in_the_middle (x ∷ xs) ys zs zero j y is at = absurd (omega (arith, is))
        in_the_middle (x ∷ xs) ys zs (suc i) j y is at = in_the_middle xs ys zs i j y (omega (arith, is)) at

    pub slot_there : slot < slots_of p
    slot_there = omega (arith, slice_get_within (port_names p) slot x name_there, length-map (ports_of p) shown_name)

    pub value_there : ProgramFits p → (values : List ℤ) → value_in (valuation_of p values) ≡ slice_get values slot
    value_there fits values =
        ap (λ b. cond b (value_at (valuation_of p values) x) None) (is_declared ∙ ap is_some (sym here)) ∙ value_at_place (port_names p) values slot x fits.ports_once name_there

-- the due tasks of a row that runs in a mode, by name

due_named : (row : Row) (p : GiottoProgram) (m : ModeDeclaration) → Runs row p m → (x : Name)
    → is_among (names_due row) x ≡ (ends m row.mode_time row.active m.invocations x && list_any (λ (a : ActiveTask). same_name a.task x) row.active)
due_named row p m runs x =
    ap (λ ts. is_among (names_of_tasks ts) x) (due_are row p m runs (λ a. true) ∙ sym (all_pass (flat_map (group m row.mode_time row.active) m.invocations)))
    ∙ tasks.names_due m row.mode_time row.active (λ a. true) m.invocations x
    ∙ ap (λ b. ends m row.mode_time row.active m.invocations x && b) (any_pass row.active)
  where
    all_pass : (xs : List ActiveTask) → filter (λ (a : ActiveTask). true) xs ≡ xs
    all_pass [] = refl
    all_pass (a ∷ xs) = ap (λ ys. a ∷ ys) (all_pass xs)

    any_pass : (xs : List ActiveTask) → list_any (λ (a : ActiveTask). same_name a.task x && true) xs ≡ list_any (λ (a : ActiveTask). same_name a.task x) xs
    any_pass [] = refl
    any_pass (a ∷ xs) =
        let here = and_true (same_name a.task x) in
        let rest = any_pass xs in
        rw (here, rest) refl

-- a tenant that runs its program, and its due tasks by places
module _ (p : GiottoProgram) (fits : ProgramFits p) (m : ModeDeclaration) (mode time : ℕ) (items : List Active) (at : slice_get p.modes mode ≡ Some m) (x : Name) (grants : GrantRows) where
  -- the part of its row that says what is due
  abbrev row : Row
  row = (standing_of no_budgets grants states.Running (Some p) mode time items [] 0 [] [] None (record { most = 0; records = [] }) 0).row

  runs : Runs row p m
  runs = record { state = refl; program = refl; mode = mode_here p fits mode m at }

  -- an active task of this name
  abbrev pub has_name : Active → Bool
  has_name a = same_name (name_of_task p a.task) x

  abbrev is_ended : Bool
  is_ended = ends m time (map (active_of p) items) m.invocations x

  named_due : (o : Option Active) → find has_name items ≡ o → is_among (names_due row) x ≡ (is_ended && is_some o)
  named_due o found =
      due_named row p m runs x
      ∙ ap (λ b. is_ended && b) (any_map (λ (a : ActiveTask). same_name a.task x) (active_of p) items ∙ sym (find_is_any has_name items) ∙ ap is_some found)

  pub not_due : find has_name items ≡ None → false ≡ is_among (names_due row) x
  not_due none = sym (named_due None none ∙ and_false is_ended)

  pub due_by_place : AllByRecursion (IsActiveOf p) items → (es : List SlotInvocation) → AreEach (IsInvocation p m) m.invocations es → (a : Active) → find has_name items ≡ Some a
      → list_any (λ (e : SlotInvocation). nat_eq a.task e.task && (time % e.interval == 0)) es ≡ is_among (names_due row) x
  due_by_place all es each a found =
      let there = some_of (slice_get p.tasks a.task) (found_has (IsActiveOf p) has_name items a all found) in
      let name : name_of_task p a.task ≡ x = same_name_is (name_of_task p a.task) x (find_passes has_name items a found) in
      let alike : is_ended ≡ list_any (λ (e : SlotInvocation). nat_eq a.task e.task && (time % e.interval == 0)) es =
      any_alike (IsInvocation p m) _ _
      (λ i e entry.
      ap (λ b. b && is_due_at time m i.frequency) (ap (λ y. same_name y i.task) (sym name) ∙ same_task p fits a.task e.task there.0 i.task there.1 entry.task)
      ∙ ap (λ b. nat_eq a.task e.task && b) (sym (invocation_due p fits time m i e entry)))
      m.invocations es each in
      sym (named_due (Some a) found ∙ and_true is_ended ∙ alike)

-- the name of the actuator that drives a line, among the program's actuators
pub named_driver : (p : GiottoProgram) (k : ℕ) (as' : List Actuator) → map actuator_of as' ≡ p.actuators
    → option_map (λ (d : ActuatorDeclaration). d.name) (driver_of k p) ≡ option_map (λ (a : Actuator). a.name) (find (λ (a : Actuator). drives k a.line) as')
named_driver p k as' are = ap (λ (ds : List ActuatorDeclaration). option_map (λ (d : ActuatorDeclaration). d.name) (find (λ (d : ActuatorDeclaration). drives k d.line) ds)) (sym are) ∙ through as'
  where
    through : (xs : List Actuator)
        → option_map (λ (d : ActuatorDeclaration). d.name) (find (λ (d : ActuatorDeclaration). drives k d.line) (map actuator_of xs)) ≡ option_map (λ (a : Actuator). a.name) (find (λ (a : Actuator). drives k a.line) xs)
    through [] = refl
    through (a ∷ xs) = by (drives k a.line) (through xs)
      where
        by : (b : Bool)
            → option_map (λ (d : ActuatorDeclaration). d.name) (find (λ (d : ActuatorDeclaration). drives k d.line) (map actuator_of xs)) ≡ option_map (λ (a : Actuator). a.name) (find (λ (a : Actuator). drives k a.line) xs)
            → option_map (λ (d : ActuatorDeclaration). d.name) (cond b (Some (actuator_of a)) (find (λ (d : ActuatorDeclaration). drives k d.line) (map actuator_of xs)))
            ≡ option_map (λ (a : Actuator). a.name) (cond b (Some a) (find (λ (a : Actuator). drives k a.line) xs))
        by true rest = refl
        by false rest = rest

-- the value of a line is that of the actuator of this name
pub line_named : (row : Row) (p : GiottoProgram) → row.program ≡ Some p → (k : ℕ) (o : Option Name) → option_map (λ (d : ActuatorDeclaration). d.name) (driver_of k p) ≡ o
    → line_value row k ≡ option_and_then (actuator_value row) o
line_named row p has k o named =
    ap (λ q. option_and_then (λ (d : ActuatorDeclaration). actuator_value row d.name) (option_and_then (driver_of k) q)) has ∙ by (driver_of k p) ∙ ap (option_and_then (actuator_value row)) named
  where
    by : (d : Option ActuatorDeclaration) → option_and_then (λ (e : ActuatorDeclaration). actuator_value row e.name) d ≡ option_and_then (actuator_value row) (option_map (λ (e : ActuatorDeclaration). e.name) d)
    by None = refl
    by (Some d) = refl
