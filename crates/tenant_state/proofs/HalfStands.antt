-- The row that a tenant represents after its second half, and the tasks that it released.
use Rattle.std.proofs.Common.{◌≡◌, ℕ, ◌+◌, ◌%◌, ◌≤◌, Bool, true, false, cond, ℤ, List, [], ◌∷◌, ◌++◌, length, map, filter, take, drop, Option, Some, None, refl, ap, sym, subst, ◌∙◌, arith}
use Rattle.std.specs.Prelude.{option_to_list, slice_get}
use Rattle.std.specs.List.{AllByRecursion}
use Rattle.std.specs.Option.{option_map, option_map_or}
use Rattle.std.proofs.Math.Seq.{take-append_seam, drop-append_seam}
use Rattle.std.proofs.lemmas.Bool.{and_parts}
use Rattle.std.proofs.lemmas.List.{length-append}
use Rattle.giotto_tasks.specs.Names.{Valuation}
use Rattle.giotto_tasks.proofs.cited.ListLemmas.{some_same}
use Rattle.giotto_tasks.specs.Syntax.{TaskBody}
use Rattle.rig_model.specs.text.PortNames.{with_values}
use Rattle.rig_model.specs.text.Program.{TaskDeclaration, TaskInvocation, ModeDeclaration, GiottoProgram}
use Rattle.rig_model.specs.rules.Declarations.{task_named, sensor_names}
use Rattle.tenant_slots.specs.well_formed.cited.Facts.{ProgramFits}
use Rattle.tenant_slots.specs.well_formed.Slots.{valuation_of}
use Rattle.rig_model.specs.declared.config.Budgets.{Budgets}
use Rattle.rig_model.specs.grants.Grants.{GrantRows}
use Rattle.rig_model.specs.Due.{is_due_at}
use Rattle.tenant_slots.specs.Places.{name_of_mode}
use Rattle.rig_model.specs.Readings.{Readings, reading_taken}
use Rattle.tenant_slots.proofs.cited.Numbered.{mode_here}
use Rattle.tenant_state.specs.declared.tenants.Active.{Active}
use Rattle.tenant_state.specs.declared.tenants.waiting.Waiting.{Waiting}
use Rattle.tenant_state.specs.declared.tenants.State.TheVariants.{Running}
use Rattle.rig_model.specs.declared.trace.records.Record.{Record}
use Rattle.rig_model.specs.Row.{ActiveTask, Row, in_mode}
use Rattle.rig_model.specs.SecondHalf.{is_invoked, released, invoked, all_invoked, all_released, invoked_in_mode, moved_on, counted, second_half_of}
use Rattle.tenant_state.specs.Standing.{Standing, StandsFor, most_at, most_in_mode, most_released, with_last}
use Rattle.tenant_state.specs.cited.Standing.{AreReleased, IsSettled}
use Rattle.tenant_state.specs.Tenants.{active_of, standing_of}
use Rattle.tenant_state.specs.inner.Tenants.{AreInvoked}
use Rattle.tenant_state.proofs.Records.{last_noted}
use Rattle.rig_model.specs.trace.Trace.{LastRecords, with_happenings}
use Rattle.tenant_state.proofs.SecondHalfSteps.{in_its_mode, running_half, placed, IsBehindSwitch}

module _ (p : GiottoProgram) (m : ModeDeclaration) (time n : ℕ) where
  -- what holds after each invocation, whether it releases its task or not, holds of all tasks that are released
  pub released_by : (P : List TaskInvocation → List ActiveTask → Type 0) → P [] [] → ((i : TaskInvocation) (is : List TaskInvocation) (later : List ActiveTask) → P is later → P (i ∷ is) later)
      → ((i : TaskInvocation) (is : List TaskInvocation) (later : List ActiveTask) (ports : Valuation) (t : TaskDeclaration) → is_due_at time m i.frequency ≡ true → task_named p i.task ≡ Some t
      → P is later → P (i ∷ is) (released n i ports t ∷ later))
      → (is : List TaskInvocation) (ports : Valuation) → P is (all_released p m time n is ports)
  released_by P none stay more [] ports = none
  released_by P none stay more (i ∷ is) ports = first (is_invoked m time i ports) (task_named p i.task) refl refl (released_by P none stay more is (invoked p m time i ports))
    where
      first : (happens : Bool) (o : Option TaskDeclaration) → is_invoked m time i ports ≡ happens → task_named p i.task ≡ o → {later : List ActiveTask} → P is later
          → P (i ∷ is) (cond happens (option_to_list (option_map (released n i ports) o)) [] ++ later)
      first false o h e on = stay i is _ on
      first true None h e on = stay i is _ on
      first true (Some t) h e on = more i is _ ports t (and_parts _ _ h).0 e on

  -- each task that an instant releases has the instant's number
  pub new_releases : (is : List TaskInvocation) (ports : Valuation) → AllByRecursion (λ (a : ActiveTask). a.release ≡ n) (all_released p m time n is ports)
  new_releases = released_by (λ is new. AllByRecursion (λ (a : ActiveTask). a.release ≡ n) new) tt (λ i is later all. all) (λ i is later ports t due e all. (refl, all))

  -- the released tasks are no more than the due invocations
  few_released : (is : List TaskInvocation) (ports : Valuation) → length (all_released p m time n is ports) ≤ length (filter (λ (i : TaskInvocation). is_due_at time m i.frequency) is)
  few_released =
      released_by (λ is new. length new ≤ length (filter (λ (i : TaskInvocation). is_due_at time m i.frequency) is)) (omega arith)
      (λ i is later le. no_shorter (is_due_at time m i.frequency) i _ _ le) (λ i is later ports t due e le. rw due (omega (arith, le)))
    where
      no_shorter : (due : Bool) (i : TaskInvocation) (others : List TaskInvocation) (k : ℕ) → k ≤ length others → k ≤ length (cond due (i ∷ others) others)
      no_shorter true i others k le = omega (arith, le)
      no_shorter false i others k le = le

  -- if nothing is due, nothing is invoked
  pub none_due : (is : List TaskInvocation) (ports : Valuation) → AllByRecursion (λ (i : TaskInvocation). is_due_at time m i.frequency ≡ false) is
      → (all_released p m time n is ports ≡ []) × (all_invoked p m time is ports ≡ ports)
  none_due [] ports all = (refl, refl)
  none_due (i ∷ is) ports all = rw all.0 (none_due is ports all.1)

-- a step that holds for each list of records holds for the tenant, which keeps the last of them
stands_behind : (readings : Readings) (granted : Valuation) (old new : Standing) → ((rs : List Record) → old.row.records ≡ take old.tenancy.budgets.trace rs → with_last new.tenancy.budgets.trace (second_half_of readings granted (record old.row { records = rs })) ≡ new.row)
    → (row : Row) → StandsFor old row → StandsFor new (second_half_of readings granted row)
stands_behind readings granted old new behind row stands =
    sym (behind row.records (ap (λ (r : Row). r.records) stands)) ∙ (λ k. with_last new.tenancy.budgets.trace (second_half_of readings granted (record (stands k) { records = row.records })))

-- the ports after the sensors' readings
abbrev pub sensed_ports : GiottoProgram → List ℤ → Readings → Valuation → Valuation
sensed_ports p values readings granted = with_values (valuation_of p values) (sensor_names p) (map (reading_taken readings granted) p.sensors)

module _ (budgets : Budgets) (grants : GrantRows) (p : GiottoProgram) (kept : ProgramFits p) (m : ModeDeclaration) (mode time n places : ℕ) (old gone : List Active) (values : List ℤ) (shares : List (Option TaskBody)) (waiting : Option Waiting) (trace : LastRecords) where
  abbrev before : Standing
  before = standing_of budgets grants Running (Some p) mode time old gone places values shares waiting trace n

  abbrev after : ℕ → ℕ → ℕ → List Active → List ℤ → LastRecords → Standing
  after to later room new written told = standing_of budgets grants Running (Some p) to later new gone room written shares waiting told (n + 1)

  module _ (at_mode : slice_get p.modes mode ≡ Some m) where
    -- the most tasks that the instant can release
    most_due : IsSettled before.row → most_released before.row ≡ most_at p m time
    most_due settled = ap most_in_mode (settled before.row.records) ∙ ap (λ o. option_map_or (λ (m : ModeDeclaration). most_at p m time) o 0) (mode_here p kept mode m at_mode)

    module _ (to at next : ℕ) (readings : Readings) (granted : Valuation) (given : List ℤ) (told : LastRecords)
        (is : IsBehindSwitch p m mode time (map (active_of p) old) (sensed_ports p values readings granted) to at next given n trace told) where
      pub room_due : IsSettled before.row → most_released before.row ≤ places → (m : ModeDeclaration) → slice_get p.modes to ≡ Some m
          → length (filter (λ (i : TaskInvocation). is_due_at at m i.frequency) m.invocations) ≤ places
      room_due settled room m there =
          subst (λ (m : ModeDeclaration). length (filter (λ (i : TaskInvocation). is_due_at at m i.frequency) m.invocations) ≤ places) (some_same is.new m (sym is.there ∙ there)) (omega (arith, room, most_due settled, is.few))

      module _ (period room : ℕ) (lasts : period ≡ is.new.period) (new : List Active) (written : List ℤ) (happened : AreInvoked p is.new at n (valuation_of p given) old new written) where
        abbrev news : List ActiveTask
        news = all_released p is.new at n is.new.invocations (valuation_of p given)

        fresh : AllByRecursion (λ (a : ActiveTask). a.release ≡ n) news
        fresh = new_releases p is.new at n is.new.invocations (valuation_of p given)

        -- the row after the step, if it had these records
        row_behind : IsSettled before.row → trace.most ≡ budgets.trace → (rs : List Record) → trace.records ≡ take budgets.trace rs
            → with_last budgets.trace (second_half_of readings granted (record before.row { records = rs })) ≡ (after to ((at + 1) % period) room new written told).row
        row_behind settled same rs last =
            let switch = is.step before.row rs in
            let steps : Row → Row = in_mode (λ p m row. moved_on m (invoked_in_mode p m row)) in
            ap (with_last budgets.trace)
            (running_half readings granted (record before.row { records = rs }) p m refl refl (mode_here p kept mode m at_mode) (settled rs)
            ∙ ap (λ row. counted (steps row)) switch
            ∙ ap counted (in_its_mode (λ p m row. moved_on m (invoked_in_mode p m row)) (placed before.row (name_of_mode p to) at (map (active_of p) old) (valuation_of p given) (with_happenings n is.happened rs)) p is.new refl (mode_here p kept to is.new is.there)))
            ∙ (λ k. record (after to ((at + 1) % sym lasts k) room new written told).row {
              active = sym happened.tasks k;
              ports = sym happened.ports k;
              records = (sym (last_noted budgets.trace n is.happened rs trace same last) ∙ ap (λ (t : LastRecords). t.records) (sym is.noted)) k;
            })

        -- the step of a running tenant
        pub half_stands : IsSettled before.row → trace.most ≡ budgets.trace → (row : Row) → StandsFor before row → StandsFor (after to ((at + 1) % period) room new written told) (second_half_of readings granted row)
        half_stands settled same row stands = stands_behind readings granted before (after to ((at + 1) % period) room new written told) (row_behind settled same) row stands

        -- the tasks that it released
        pub half_released : IsSettled before.row → AreReleased before.row (after to ((at + 1) % period) room new written told).row
        half_released settled = let olds : List ActiveTask = map (active_of p) old in record {
          older = ap (take (length olds)) happened.tasks ∙ take-append_seam olds news;
          newer = subst (AllByRecursion (λ (a : ActiveTask). a.release ≡ n)) (sym (ap (drop (length olds)) happened.tasks ∙ drop-append_seam olds news)) fresh;
          few = omega (arith, ap length happened.tasks ∙ length-append olds news, few_released p is.new at n is.new.invocations (valuation_of p given), most_due settled, is.few);
        }
