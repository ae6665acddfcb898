-- Intervals none of which ends for a while.
use Rattle.std.proofs.Common.{◌≡◌, ℕ, ◌+◌, ◌<◌, ◌≤◌, ◌-◌, ◌^◌, ◌%◌, ◌==◌, Bool, false, List, [], ◌∷◌, ◌++◌, length, take, drop, get_or, Some, ⊎_elim, sym, ap, subst, ◌∙◌, arith}
use Rattle.std.specs.Prelude.{min, slice_get}
use Rattle.std.specs.List.{AllByRecursion}
use Rattle.std.proofs.Math.Nat.{min-eq_left, min-eq_right, min-le_left, min-le_right}
use Rattle.std.proofs.lemmas.Bool.{cases_lt}
use Rattle.std.proofs.lemmas.List.{take-append-drop, take_more}
use Rattle.std.proofs.lemmas.Option.{slice_get_cases}
use Rattle.rig_model.specs.text.Program.{ActuatorUpdate, ModeSwitch, TaskInvocation, ModeDeclaration, GiottoProgram}
use Rattle.giotto_check.specs.cited.Facts.{ProgramFits}
use Rattle.giotto_check.specs.cited.Timetables.{AreEach, IsUpdate, IsExit, IsInvocation}
use Rattle.giotto_check.specs.declared.timetables.SlotUpdate.{SlotUpdate}
use Rattle.giotto_check.specs.declared.timetables.SlotExit.{SlotExit}
use Rattle.giotto_check.specs.declared.timetables.SlotInvocation.{SlotInvocation}
use Rattle.giotto_tasks.proofs.cited.ListLemmas.{all_and_one, all_middle}
use Rattle.rig_model.specs.Due.{is_due_at}
use Rattle.tenant_slots.specs.cited.Due.{IsNextDue, IsQuietAt, IsQuietUntil}
use Rattle.tenant_slots.proofs.cited.Numbered.{mode_fits_at, update_due, exit_due, invocation_due, update_intervals, exit_intervals, invocation_intervals}

-- none of these intervals ends from `time` on and before `next`
abbrev pub AreQuiet : {E : Type 0} → (E → ℕ) → List E → ℕ → ℕ → Type 0
AreQuiet interval es time next = (t : ℕ) → time ≤ t → t < next → AllByRecursion (λ e. (t % interval e == 0) ≡ false) es

pub quiet_more : {E : Type 0} (interval : E → ℕ) (es : List E) (i : ℕ) (x : E) (time next more least : ℕ) → i < length es → x ≡ get_or es i x → AreQuiet interval (take i es) time next
    → ((t : ℕ) → time ≤ t → t < more → (t % interval x == 0) ≡ false) → least ≡ min next more → AreQuiet interval (take (i + 1) es) time least
quiet_more {E = E} interval es i x time next more least lt is quiet one e t from before =
    let P : E → Type 0 = λ e. (t % interval e == 0) ≡ false in
    subst (AllByRecursion P) (sym (take_more es i x lt ∙ ap (λ z. take i es ++ z ∷ []) (sym is)))
    (all_and_one P (take i es) x (quiet t from (omega (arith, before, e, min-le_left next more))) (one t from (omega (arith, before, e, min-le_right next more))))

all_front : {E : Type 0} (P : E → Type 0) (xs ys : List E) → AllByRecursion P (xs ++ ys) → AllByRecursion P xs
all_front P [] ys all = tt
all_front P (x ∷ xs) ys all = (all.0, all_front P xs ys all.1)

-- if none of these intervals ends at `next`, it is `last`
abbrev pub AreDue : {E : Type 0} → (E → ℕ) → List E → ℕ → ℕ → Type 0
AreDue interval es last next = AllByRecursion (λ e. (next % interval e == 0) ≡ false) es → next ≡ last

pub due_more : {E : Type 0} (interval : E → ℕ) (es : List E) (i : ℕ) (x : E) (last next more least : ℕ) → i < length es → x ≡ get_or es i x → AreDue interval (take i es) last next
    → ((more % interval x == 0) ≡ false → more ≡ 2 ^ 64 - 1) → next < 2 ^ 64 → least ≡ min next more → AreDue interval (take (i + 1) es) last least
due_more {E = E} interval es i x last next more least lt is due one small e quiet =
    let P : ℕ → E → Type 0 = λ t e. (t % interval e == 0) ≡ false in
    let all = subst (AllByRecursion (P least)) (take_more es i x lt ∙ ap (λ z. take i es ++ z ∷ []) (sym is)) quiet in
    ⊎_elim
    (λ less. let same : least ≡ more = e ∙ min-eq_right (omega (arith, less)) in absurd (omega (arith, one (subst (λ t. P t x) same (all_middle (P least) (take i es) x [] all)), small, less)))
    (λ not_less. let same : least ≡ next = e ∙ min-eq_left not_less in same ∙ due (subst (λ t. AllByRecursion (P t) (take i es)) same (all_front (P least) (take i es) (x ∷ []) all)))
    (cases_lt more next)

-- what holds of the first of them holds of all
pub due_front : {E : Type 0} (interval : E → ℕ) (es : List E) (n last next : ℕ) → AreDue interval (take n es) last next → AreDue interval es last next
due_front {E = E} interval es n last next due all =
    let P : E → Type 0 = λ e. (next % interval e == 0) ≡ false in
    due (all_front P (take n es) (drop n es) (subst (AllByRecursion P) (sym (take-append-drop n es)) all))

-- if something is due at this mode time, nothing comes before it
pub due_now : (m : ModeDeclaration) (time : ℕ) → (IsQuietAt m time → time ≡ 2 ^ 64 - 1) → IsNextDue m time time
due_now m time due = record { from = omega arith; quiet = λ t from before. absurd (omega (arith, from, before)); due = due }

-- entries are quiet if the lines of the mode are
pub quiet_entries : {L E : Type 0} (R : L → E → Type 0) (interval : E → ℕ) (due : L → Bool) (t : ℕ) → ((x : L) (e : E) → R x e → (t % interval e == 0) ≡ due x) → (xs : List L) (es : List E)
    → AreEach R xs es → AllByRecursion (λ x. due x ≡ false) xs → AllByRecursion (λ e. (t % interval e == 0) ≡ false) es
quiet_entries R interval due t same [] [] each quiet = tt
quiet_entries R interval due t same [] (e ∷ es) each quiet = absurd each
quiet_entries R interval due t same (x ∷ xs) [] each quiet = absurd each
quiet_entries R interval due t same (x ∷ xs) (e ∷ es) each quiet = (same x e each.0 ∙ quiet.0, quiet_entries R interval due t same xs es each.1 quiet.1)

-- lines of a mode are quiet if their entries are
pub quiet_each : {L E : Type 0} (R : L → E → Type 0) (interval : E → ℕ) (due : L → Bool) (t : ℕ) → ((x : L) (e : E) → R x e → (t % interval e == 0) ≡ due x) → (xs : List L) (es : List E)
    → AreEach R xs es → AllByRecursion (λ e. (t % interval e == 0) ≡ false) es → AllByRecursion (λ x. due x ≡ false) xs
quiet_each R interval due t same [] [] each quiet = tt
quiet_each R interval due t same [] (e ∷ es) each quiet = absurd each
quiet_each R interval due t same (x ∷ xs) [] each quiet = absurd each
quiet_each R interval due t same (x ∷ xs) (e ∷ es) each quiet = (sym (same x e each.0) ∙ quiet.0, quiet_each R interval due t same xs es each.1 quiet.1)

module _ (p : GiottoProgram) (fits : ProgramFits p) (mode : ℕ) where
  pub quiet_until : (m : ModeDeclaration) (us : List SlotUpdate) (ss : List SlotExit) (is : List SlotInvocation) (time first second next : ℕ) → AreEach (IsUpdate p m) m.updates us
      → AreEach (IsExit p m) m.switches ss → AreEach (IsInvocation p m) m.invocations is → AreQuiet (λ (e : SlotUpdate). e.interval) us time first → AreQuiet (λ (e : SlotExit). e.interval) ss time second
      → AreQuiet (λ (e : SlotInvocation). e.interval) is time next → second ≤ first → next ≤ second → IsQuietUntil m time next
  quiet_until m us ss is time first second next each_u each_s each_i quiet_u quiet_s quiet_i less least t from before = record {
    no_update = quiet_each (IsUpdate p m) (λ (e : SlotUpdate). e.interval) (λ (u : ActuatorUpdate). is_due_at t m u.frequency) t (update_due p fits t m) m.updates us each_u
        (quiet_u t from (omega (arith, before, less, least)));
    no_switch = quiet_each (IsExit p m) (λ (e : SlotExit). e.interval) (λ (s : ModeSwitch). is_due_at t m s.frequency) t (exit_due p fits t m) m.switches ss each_s (quiet_s t from (omega (arith, before, least)));
    no_invocation = quiet_each (IsInvocation p m) (λ (e : SlotInvocation). e.interval) (λ (i : TaskInvocation). is_due_at t m i.frequency) t (invocation_due p fits t m) m.invocations is each_i (quiet_i t from before);
  }

  -- if nothing of the mode is due at `next`, it is the last mode time
  pub updates_due : (m : ModeDeclaration) (us : List SlotUpdate) (next : ℕ) → AreEach (IsUpdate p m) m.updates us → AreDue (λ (e : SlotUpdate). e.interval) us (2 ^ 64 - 1) next → IsQuietAt m next → next ≡ 2 ^ 64 - 1
  updates_due m us next each due quiet =
      due (quiet_entries (IsUpdate p m) (λ (e : SlotUpdate). e.interval) (λ (u : ActuatorUpdate). is_due_at next m u.frequency) next (update_due p fits next m) m.updates us each quiet.no_update)

  pub exits_due : (m : ModeDeclaration) (us : List SlotUpdate) (ss : List SlotExit) (first next : ℕ) → AreEach (IsUpdate p m) m.updates us → AreEach (IsExit p m) m.switches ss
      → AreDue (λ (e : SlotUpdate). e.interval) us (2 ^ 64 - 1) first → AreDue (λ (e : SlotExit). e.interval) ss first next → IsQuietAt m next → next ≡ 2 ^ 64 - 1
  exits_due m us ss first next each_u each_s due_u due_s quiet =
      let before : next ≡ first = due_s (quiet_entries (IsExit p m) (λ (e : SlotExit). e.interval) (λ (s : ModeSwitch). is_due_at next m s.frequency) next (exit_due p fits next m) m.switches ss each_s quiet.no_switch) in
      before ∙ updates_due m us first each_u due_u (subst (IsQuietAt m) before quiet)

  pub due_at : (m : ModeDeclaration) (us : List SlotUpdate) (ss : List SlotExit) (is : List SlotInvocation) (first second next : ℕ) → AreEach (IsUpdate p m) m.updates us
      → AreEach (IsExit p m) m.switches ss → AreEach (IsInvocation p m) m.invocations is → AreDue (λ (e : SlotUpdate). e.interval) us (2 ^ 64 - 1) first → AreDue (λ (e : SlotExit). e.interval) ss first second
      → AreDue (λ (e : SlotInvocation). e.interval) is second next → IsQuietAt m next → next ≡ 2 ^ 64 - 1
  due_at m us ss is first second next each_u each_s each_i due_u due_s due_i quiet =
      let third : next ≡ second = due_i (quiet_entries (IsInvocation p m) (λ (e : SlotInvocation). e.interval) (λ (i : TaskInvocation). is_due_at next m i.frequency) next (invocation_due p fits next m) m.invocations is each_i quiet.no_invocation) in
      third ∙ exits_due m us ss first second each_u each_s due_u due_s (subst (IsQuietAt m) third quiet)

  -- the intervals of a mode's entries are positive
  pub updates_positive : (es : List SlotUpdate) → ((m : ModeDeclaration) → slice_get p.modes mode ≡ Some m → AreEach (IsUpdate p m) m.updates es) → (length p.modes ≤ mode → es ≡ [])
      → AllByRecursion (λ (e : SlotUpdate). 0 < e.interval) es
  updates_positive es there none = ⊎_elim
      (λ found. update_intervals p fits found.0 (mode_fits_at p fits mode found.0 found.2) es (there found.0 found.2))
      (λ past. subst (AllByRecursion (λ (e : SlotUpdate). 0 < e.interval)) (sym (none past.0)) tt) (slice_get_cases p.modes mode).1

  pub exits_positive : (es : List SlotExit) → ((m : ModeDeclaration) → slice_get p.modes mode ≡ Some m → AreEach (IsExit p m) m.switches es) → (length p.modes ≤ mode → es ≡ [])
      → AllByRecursion (λ (e : SlotExit). 0 < e.interval) es
  exits_positive es there none = ⊎_elim
      (λ found. exit_intervals p fits found.0 (mode_fits_at p fits mode found.0 found.2) es (there found.0 found.2))
      (λ past. subst (AllByRecursion (λ (e : SlotExit). 0 < e.interval)) (sym (none past.0)) tt) (slice_get_cases p.modes mode).1

  pub invocations_positive : (es : List SlotInvocation) → ((m : ModeDeclaration) → slice_get p.modes mode ≡ Some m → AreEach (IsInvocation p m) m.invocations es) → (length p.modes ≤ mode → es ≡ [])
      → AllByRecursion (λ (e : SlotInvocation). 0 < e.interval) es
  invocations_positive es there none = ⊎_elim
      (λ found. invocation_intervals p fits found.0 (mode_fits_at p fits mode found.0 found.2) es (there found.0 found.2))
      (λ past. subst (AllByRecursion (λ (e : SlotInvocation). 0 < e.interval)) (sym (none past.0)) tt) (slice_get_cases p.modes mode).1
