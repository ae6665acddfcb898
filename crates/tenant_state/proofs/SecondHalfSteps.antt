-- The second half of a running tenant without a waiting program, and the mode after its switch.
use Rattle.std.proofs.Common.{◌≡◌, ℕ, ◌<◌, ◌≤◌, ◌^◌, Bool, true, false, cond, ℤ, List, [], ◌∷◌, ◌++◌, length, map, filter, Some, None, refl, ap, sym, ◌∙◌, arith}
use Rattle.std.specs.Prelude.{◌==◌, ◌&&◌, slice_get}
use Rattle.std.specs.List.{find, filter_map, AllByRecursion}
use Rattle.std.specs.Option.{option_map_or}
use Rattle.std.proofs.Math.Nat.{le-max_left, le-max_right}
use Rattle.std.proofs.lemmas.Bool.{eq-eqb, ne_eqb}
use Rattle.giotto_tasks.specs.declared.names.Name.{Name}
use Rattle.giotto_tasks.specs.Names.{Valuation, same_name}
use Rattle.rig_model.specs.text.Program.{ModeSwitch, TaskInvocation, ModeDeclaration, GiottoProgram}
use Rattle.rig_model.specs.rules.Declarations.{mode_named, period_of_task}
use Rattle.tenant_slots.specs.well_formed.cited.Facts.{ProgramFits}
use Rattle.tenant_slots.specs.well_formed.Slots.{valuation_of}
use Rattle.rig_model.specs.Due.{is_due_at}
use Rattle.tenant_slots.specs.cited.Due.{IsQuietUntil}
use Rattle.tenant_slots.specs.Places.{name_of_mode}
use Rattle.rig_model.specs.Ports.{holds}
use Rattle.rig_model.specs.Readings.{Readings}
use Rattle.tenant_slots.proofs.cited.Numbered.{mode_fits_at}
use Rattle.tenant_state.specs.declared.tenants.switches.Entry.{Entry}
use Rattle.rig_model.specs.declared.trace.records.Happening.TheVariants as happening
use Rattle.rig_model.specs.declared.trace.records.Happening.{Happening}
use Rattle.rig_model.specs.declared.trace.records.Record.{Record}
use Rattle.rig_model.specs.trace.Trace.{LastRecords, with_happenings}
use Rattle.rig_model.specs.trace.cited.Noted.{noted}
use Rattle.rig_model.specs.Row.{running, ActiveTask, Row, is_running_state, where_some, in_mode}
use Rattle.rig_model.specs.SecondHalf.{installed, replaced_if_due, sensed, time_before_end, entry_time, entered, switched, invoked_in_mode, moved_on, counted, second_half_running, second_half_of}
use Rattle.rig_model.specs.rules.Costs.{greatest}
use Rattle.tenant_state.specs.Standing.{invoked_in, most_at}
use Rattle.tenant_state.proofs.GreatestOf.{greatest_more}
use Rattle.tenant_state.specs.inner.Tenants.{IsEntered, IsSwitched}
use Rattle.giotto_tasks.proofs.cited.ListLemmas.{find_passes, some_same}
use Rattle.giotto_tasks.proofs.cited.NameLemmas.{same_name_is}
use Rattle.giotto_tasks.proofs.cited.TestLemmas.{cond-same}

pub in_its_mode : (step : GiottoProgram → ModeDeclaration → Row → Row) (row : Row) (p : GiottoProgram) (m : ModeDeclaration) → row.program ≡ Some p → mode_named p row.mode ≡ Some m
    → in_mode step row ≡ step p m row
in_its_mode step row p m e f = ap (λ o. where_some (λ p. where_some (step p) (mode_named p row.mode)) o row) e ∙ ap (λ o. where_some (step p) o row) f

pub none_waits : (row : Row) → row.waiting ≡ None → replaced_if_due row ≡ row
none_waits row e = ap (λ o. cond (row.mode_time == 0) (where_some installed o row) row) e ∙ cond-same (row.mode_time == 0) row

-- the half, up to the switch
pub running_half : (readings : Readings) (granted : Valuation) (row : Row) (p : GiottoProgram) (m : ModeDeclaration) → row.state ≡ running → row.program ≡ Some p → mode_named p row.mode ≡ Some m → replaced_if_due row ≡ row
    → second_half_of readings granted row ≡ counted (in_mode (λ p m row. moved_on m (invoked_in_mode p m row)) (switched p m (sensed readings granted p row)))
running_half readings granted row p m runs program mode settled =
    let first : Row → Row = in_mode (λ p m row. switched p m (sensed readings granted p row)) in
    let second : Row → Row = in_mode (λ p m row. moved_on m (invoked_in_mode p m row)) in
    ap (λ b. counted (cond b (second_half_running readings granted row) row)) (ap is_running_state runs)
    ∙ ap (λ r. counted (second (first r))) settled
    ∙ ap (λ r. counted (second r)) (in_its_mode (λ p m row. switched p m (sensed readings granted p row)) row p m program mode)

-- a row in this mode, with these active tasks, ports and records
abbrev pub placed : Row → Name → ℕ → List ActiveTask → Valuation → List Record → Row
placed row x time active ports records = record row { mode = x; mode_time = time; active = active; ports = ports; records = records }

-- `to` is the place of the mode after the switch of mode `m`: the mode that was entered, or `m` if no switch was taken
pub record IsBehindSwitch (p : GiottoProgram) (m : ModeDeclaration) (mode time : ℕ) (active : List ActiveTask) (ports : Valuation) (to at next : ℕ) (values : List ℤ) (n : ℕ) (trace told : LastRecords) : Type 0 where
  pub new : ModeDeclaration
  pub there : slice_get p.modes to ≡ Some new
  pub quiet : (m : ModeDeclaration) → slice_get p.modes to ≡ Some m → IsQuietUntil m at next
  pub short : at < 2 ^ 32
  pub few : length (filter (λ (i : TaskInvocation). is_due_at at new i.frequency) new.invocations) ≤ most_at p m time
  -- what the trace records of the switch
  pub happened : List Happening
  pub noted : told ≡ noted n happened trace
  pub step : (row : Row) (rs : List Record)
      → switched p m (placed row (name_of_mode p mode) time active ports rs) ≡ placed row (name_of_mode p to) at active (valuation_of p values) (with_happenings row.next_tick happened rs)

-- the value of the first element that passes both tests is no more than the greatest value of those that pass one
found_within : {X : Type 0} (f : X → ℕ) (one other : X → Bool) (xs : List X) (x : X) → find (λ y. one y && other y) xs ≡ Some x → f x ≤ greatest (map f (filter one xs))
found_within f one other [] x e = absurd (cc)
found_within f one other (y ∷ ys) x e = at_head (one y) (other y) e (found_within f one other ys x)
  where
    at_head : (a b : Bool) → cond (a && b) (Some y) (find (λ y. one y && other y) ys) ≡ Some x → (find (λ y. one y && other y) ys ≡ Some x → f x ≤ greatest (map f (filter one ys)))
        → f x ≤ greatest (map f (cond a (y ∷ filter one ys) (filter one ys)))
    at_head true true e on = omega (arith, ap f (some_same y x e), greatest_more (f y) (map f (filter one ys)))
    at_head true false e on = omega (arith, on e, greatest_more (f y) (map f (filter one ys)))
    at_head false b e on = on e

no_more : {X : Type 0} (test : X → Bool) (xs : List X) → length (filter test xs) ≤ length xs
no_more test [] = omega arith
no_more test (x ∷ xs) = at_head (test x) (no_more test xs)
  where
    at_head : (b : Bool) → length (filter test xs) ≤ length xs → length (cond b (x ∷ filter test xs) (filter test xs)) ≤ length (x ∷ xs)
    at_head true le = omega arith
    at_head false le = omega arith

before_end : (from target : ModeDeclaration) (time : ℕ) (ks : List ℕ) → time_before_end from target time ks ≤ target.period
before_end from target time [] = omega arith
before_end from target time (k ∷ ks) = omega arith

entry_within : (from target : ModeDeclaration) (time : ℕ) (active : List ActiveTask) → entry_time from target time active ≤ target.period
entry_within from target time active = before_end from target time (filter_map (λ (a : ActiveTask). period_of_task from a.task) active)

module _ (p : GiottoProgram) (kept : ProgramFits p) (m : ModeDeclaration) (mode time next : ℕ) (active : List ActiveTask) (ports : Valuation) (values : List ℤ) (n : ℕ) (trace : LastRecords) where
  -- no switch is taken
  pub none_taken : (to at later : ℕ) (told : LastRecords) → told ≡ trace → to ≡ mode → at ≡ time → later ≡ next → slice_get p.modes mode ≡ Some m → ((m : ModeDeclaration) → slice_get p.modes mode ≡ Some m → IsQuietUntil m time next) → time < 2 ^ 32 → IsSwitched p m time active ports None values
      → IsBehindSwitch p m mode time active ports to at later values n trace told
  none_taken to at later told quiet_trace same_mode same_time same_next here quiet short none = rw (same_mode, same_time, same_next) (record {
    new = m;
    there = here;
    quiet = quiet;
    short = short;
    few = le-max_left _ _;
    happened = [];
    noted = quiet_trace;
    step = λ row rs.
        ap (λ o. where_some (λ s. where_some (entered m s) (mode_named p s.target)) o (placed row (name_of_mode p mode) time active ports rs)) none.0
        ∙ (λ k. placed row (name_of_mode p mode) time active (sym none.1 k) rs);
  })

  -- the target of a switch is found by its name
  target_named : (entry : Entry) (is : IsEntered p m time active ports entry values) → name_of_mode p entry.mode ≡ is.switch.target
  target_named entry is =
      ap (λ o. option_map_or (λ (m : ModeDeclaration). m.name) o []) is.there
      ∙ same_name_is is.target.name is.switch.target (find_passes (λ (m : ModeDeclaration). same_name m.name is.switch.target) p.modes is.target is.named)

  -- no more tasks are due in the target than it invokes, and its switch is one of those that are due
  few_there : (entry : Entry) (is : IsEntered p m time active ports entry values)
      → length (filter (λ (i : TaskInvocation). is_due_at entry.time is.target i.frequency) is.target.invocations) ≤ most_at p m time
  few_there entry is =
      let mine : invoked_in p is.switch.target ≡ length is.target.invocations = ap (λ o. option_map_or (λ (m : ModeDeclaration). length m.invocations) o 0) is.named in
      let among = found_within (λ (s : ModeSwitch). invoked_in p s.target) (λ (s : ModeSwitch). is_due_at time m s.frequency) (λ (s : ModeSwitch). holds s.guard ports) m.switches is.switch is.taken in
      let others = no_more (λ (i : TaskInvocation). is_due_at entry.time is.target i.frequency) is.target.invocations in
      omega (arith, mine, among, others, le-max_right (length (filter (λ (i : TaskInvocation). is_due_at time m i.frequency) m.invocations)) (greatest (map (λ (s : ModeSwitch). invoked_in p s.target) (filter (λ (s : ModeSwitch). is_due_at time m s.frequency) m.switches))))

  -- a switch is taken
  pub one_taken : (entry : Entry) (to at later : ℕ) (told : LastRecords) → told ≡ noted n (happening.Mode (name_of_mode p entry.mode) ∷ []) trace → to ≡ entry.mode → at ≡ entry.time → later ≡ 0 → IsEntered p m time active ports entry values → IsBehindSwitch p m mode time active ports to at later values n trace told
  one_taken entry to at later told told_mode same_mode same_time same_next is = rw (same_mode, same_time, same_next) (record {
    new = is.target;
    there = is.there;
    quiet = λ m there t from before. absurd (omega (arith, before));
    short = omega (arith, is.begins, entry_within m is.target time active, (mode_fits_at p kept entry.mode is.target is.there).short);
    few = few_there entry is;
    happened = happening.Mode is.switch.target ∷ [];
    noted = told_mode ∙ ap (λ x. noted n (happening.Mode x ∷ []) trace) (target_named entry is);
    step = λ row rs.
        let more : List Record = record { tick = row.next_tick; happening = happening.Mode is.switch.target } ∷ rs in
        ap (λ o. where_some (λ s. where_some (entered m s) (mode_named p s.target)) o (placed row (name_of_mode p mode) time active ports rs)) is.taken
        ∙ ap (λ o. where_some (entered m is.switch) o (placed row (name_of_mode p mode) time active ports rs)) is.named
        ∙ (λ k. placed row (sym (target_named entry is) k) (sym is.begins k) active (sym is.given k) more);
  })

-- the tasks of an instant: those of older instants have other numbers
all_of_new : (n : ℕ) (new : List ActiveTask) → AllByRecursion (λ (a : ActiveTask). a.release ≡ n) new → filter (λ (a : ActiveTask). a.release == n) new ≡ new
all_of_new n [] all = refl
all_of_new n (a ∷ rest) all =
    ap (λ b. cond b (a ∷ filter (λ (a : ActiveTask). a.release == n) rest) (filter (λ (a : ActiveTask). a.release == n) rest)) (eq-eqb a.release n all.0)
    ∙ ap (λ xs. a ∷ xs) (all_of_new n rest all.1)

pub those_released : (n : ℕ) (older new : List ActiveTask) → AllByRecursion (λ (a : ActiveTask). a.release < n) older → AllByRecursion (λ (a : ActiveTask). a.release ≡ n) new
    → filter (λ (a : ActiveTask). a.release == n) (older ++ new) ≡ new
those_released n [] new all each = all_of_new n new each
those_released n (a ∷ rest) new all each =
    ap (λ b. cond b (a ∷ filter (λ (a : ActiveTask). a.release == n) (rest ++ new)) (filter (λ (a : ActiveTask). a.release == n) (rest ++ new))) (ne_eqb a.release n (λ e. absurd (omega (arith, e, all.0))))
    ∙ those_released n rest new all.1 each
