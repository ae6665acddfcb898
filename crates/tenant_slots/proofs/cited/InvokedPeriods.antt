-- The period of a task in a mode: the interval of its entry in the mode's timetable.
use Rattle.std.proofs.Common.{◌≡◌, ℕ, ◌*◌, ◌/◌, ◌<◌, nat_eq, Bool, true, false, cond, List, [], ◌∷◌, Option, Some, None, refl, sym, ap, subst, ◌∙◌, arith}
use Rattle.std.specs.Prelude.{slice_get}
use Rattle.std.specs.List.{find}
use Rattle.std.specs.Option.{option_map}
use Rattle.std.proofs.Math.Nat.{dvd-mul_left}
use Rattle.std.specs.Int.{◌∣◌}
use Rattle.std.proofs.lemmas.Bool.{eq-eqb, eqb-true}
use Rattle.giotto_tasks.specs.declared.names.Name.{Name}
use Rattle.giotto_tasks.specs.Names.{same_name}
use Rattle.giotto_tasks.proofs.cited.ListLemmas.{found_has, some_same}
use Rattle.giotto_tasks.proofs.cited.NameLemmas.{same_name_is, same_name_self}
use Rattle.giotto_tasks.proofs.cited.TestLemmas.{same_answers}
use Rattle.rig_model.specs.text.Program.{TaskDeclaration, TaskInvocation, ModeDeclaration, GiottoProgram}
use Rattle.rig_model.specs.rules.Declarations.{period_of_task}
use Rattle.giotto_check.specs.cited.Facts.{IsFrequencyOf, InvocationFits, ModeFits, ProgramFits}
use Rattle.giotto_check.specs.cited.Timetables.{AreEach, IsInvocation}
use Rattle.giotto_check.specs.declared.timetables.SlotInvocation.{SlotInvocation}
use Rattle.tenant_slots.specs.Places.{name_of_task}
use Rattle.tenant_slots.proofs.cited.Numbered.{same_task}

-- a task's period, from the mode's first invocation of it
not_invoked : (m : ModeDeclaration) (x : Name) → find (λ (i : TaskInvocation). same_name i.task x) m.invocations ≡ None → period_of_task m x ≡ None
not_invoked m x e = rw e refl

invoked : (m : ModeDeclaration) (x : Name) (i : TaskInvocation) → find (λ (i : TaskInvocation). same_name i.task x) m.invocations ≡ Some i → period_of_task m x ≡ Some (m.period / i.frequency)
invoked m x i e = rw e refl

turned_name : (x y : Name) → same_name x y ≡ same_name y x
turned_name x y = same_answers _ _ (λ e. turn x y e) (λ e. turn y x e)
  where
    turn : (x y : Name) → same_name x y ≡ true → same_name y x ≡ true
    turn x y e = subst (λ z. same_name z x ≡ true) (same_name_is x y e) (same_name_self x)

turned_number : (a b : ℕ) → nat_eq a b ≡ nat_eq b a
turned_number a b = same_answers _ _ (λ e. eq-eqb b a (sym (eqb-true a b e))) (λ e. eq-eqb a b (sym (eqb-true b a e)))

-- the period of the task at a place is the interval of its invocation
module _ (p : GiottoProgram) (fits : ProgramFits p) (m : ModeDeclaration) (place : ℕ) (t : TaskDeclaration) (at : slice_get p.tasks place ≡ Some t) where
  same_invocation : (i : TaskInvocation) (e : SlotInvocation) → IsInvocation p m i e → same_name i.task (name_of_task p place) ≡ nat_eq e.task place
  same_invocation i e is = turned_name i.task (name_of_task p place) ∙ same_task p fits place e.task t i.task at is.task ∙ turned_number place e.task

  abbrev interval : Option TaskInvocation → Option ℕ
  interval o = option_map (λ (i : TaskInvocation). m.period / i.frequency) o

  intervals : (is : List TaskInvocation) (es : List SlotInvocation) → AreEach (IsInvocation p m) is es
      → option_map (λ (e : SlotInvocation). e.interval) (find (λ (e : SlotInvocation). nat_eq e.task place) es) ≡ interval (find (λ (i : TaskInvocation). same_name i.task (name_of_task p place)) is)
  intervals [] [] each = refl
  intervals [] (e ∷ es) each = absurd each
  intervals (i ∷ is) [] each = absurd each
  intervals (i ∷ is) (e ∷ es) each =
      by (nat_eq e.task place) (intervals is es each.1)
      ∙ ap (λ b. interval (cond b (Some i) (find (λ (i : TaskInvocation). same_name i.task (name_of_task p place)) is))) (sym (same_invocation i e each.0))
    where
      by : (b : Bool) → option_map (λ (e : SlotInvocation). e.interval) (find (λ (e : SlotInvocation). nat_eq e.task place) es) ≡ interval (find (λ (i : TaskInvocation). same_name i.task (name_of_task p place)) is)
          → option_map (λ (e : SlotInvocation). e.interval) (cond b (Some e) (find (λ (e : SlotInvocation). nat_eq e.task place) es)) ≡ interval (cond b (Some i) (find (λ (i : TaskInvocation). same_name i.task (name_of_task p place)) is))
      by true rest = ap Some each.0.interval
      by false rest = rest

  its_period : (o : Option TaskInvocation) → find (λ (i : TaskInvocation). same_name i.task (name_of_task p place)) m.invocations ≡ o → interval o ≡ period_of_task m (name_of_task p place)
  its_period None e = sym (not_invoked m (name_of_task p place) e)
  its_period (Some i) e = sym (invoked m (name_of_task p place) i e)

  pub period_at : (es : List SlotInvocation) → AreEach (IsInvocation p m) m.invocations es
      → option_map (λ (e : SlotInvocation). e.interval) (find (λ (e : SlotInvocation). nat_eq e.task place) es) ≡ period_of_task m (name_of_task p place)
  period_at es each = intervals m.invocations es each ∙ its_period _ refl

-- a period is positive, and divides the mode's period
pub period_divides : (p : GiottoProgram) (m : ModeDeclaration) → ModeFits p m → (x : Name) (k : ℕ) → period_of_task m x ≡ Some k → (0 < k) × (k ∣ m.period)
period_divides p m fits x k e = by (find (λ (i : TaskInvocation). same_name i.task x) m.invocations) refl
  where
    by : (o : Option TaskInvocation) → find (λ (i : TaskInvocation). same_name i.task x) m.invocations ≡ o → (0 < k) × (k ∣ m.period)
    by None found = let none = not_invoked m x found in absurd (cc)
    by (Some i) found =
        let f : IsFrequencyOf m i.frequency = (found_has (InvocationFits p m) (λ (i : TaskInvocation). same_name i.task x) m.invocations i fits.invocations found).frequency in
        let same : m.period / i.frequency ≡ k = some_same (m.period / i.frequency) k (sym (invoked m x i found) ∙ e) in
        let whole : i.frequency * (m.period / i.frequency) ≡ m.period = omega (arith, f.positive, f.divides) in
        (omega (arith, same, f.interval), subst (λ n. k ∣ n) (ap (λ n. i.frequency * n) (sym same) ∙ whole) (dvd-mul_left k i.frequency))
