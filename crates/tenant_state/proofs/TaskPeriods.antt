-- The periods of active tasks in a mode, and their least common multiple.
use Rattle.std.proofs.Common.{◌≡◌, ℕ, zero, suc, ◌+◌, ◌*◌, ◌-◌, ◌^◌, ◌<◌, ◌≤◌, ◌%◌, true, ⊎_elim, List, [], ◌∷◌, ◌++◌, length, map, take, get_or, Option, Some, None, refl, sym, ap, subst, ◌∙◌, arith}
use Rattle.std.specs.Prelude.{slice_get}
use Rattle.std.specs.List.{filter_map, cons_option}
use Rattle.std.proofs.Math.Nat.{mul-le-mul_left}
use Rattle.std.proofs.lemmas.Bool.{and_from}
use Rattle.std.proofs.lemmas.List.{append-nil, map-append, take_more}
use Rattle.std.proofs.lemmas.List.Elements.{filter_map-append}
use Rattle.std.proofs.lemmas.Nat.Gcd.{le_of_dvd}
use Rattle.std.proofs.lemmas.Option.{slice_get_cases}
use Rattle.giotto_tasks.specs.declared.names.Name.{Name}
use Rattle.giotto_tasks.proofs.cited.ListLemmas.{some_same}
use Rattle.rig_model.specs.text.Program.{ModeDeclaration, GiottoProgram}
use Rattle.rig_model.specs.rules.Declarations.{period_of_task}
use Rattle.tenant_slots.specs.well_formed.cited.Facts.{ModeFits, ProgramFits}
use Rattle.tenant_slots.specs.Places.{name_of_task}
use Rattle.tenant_slots.proofs.cited.Numbered.{mode_fits_at}
use Rattle.tenant_state.specs.declared.tenants.Active.{Active}
use Rattle.rig_model.specs.CommonPeriods.{is_common_multiple}
use Rattle.tenant_slots.specs.cited.CommonPeriods.{IsLeastCommonMultiple, IsCommonPeriod}
use Rattle.rig_model.specs.Row.{ActiveTask}
use Rattle.rig_model.specs.SecondHalf.{time_before_end}
use Rattle.tenant_state.specs.Tenants.{active_of}
use Rattle.tenant_slots.proofs.cited.CommonMultiples.{is_divided, least_is, of_more, of_one}
use Rattle.tenant_slots.proofs.cited.InvokedPeriods.{period_divides}

-- the periods of the tasks that the mode invokes
abbrev pub periods_of : ModeDeclaration → List ActiveTask → List ℕ
periods_of m tasks = filter_map (λ (a : ActiveTask). period_of_task m a.task) tasks

-- the mode's period is a common multiple
pub periods_common : (p : GiottoProgram) (m : ModeDeclaration) → ModeFits p m → (tasks : List ActiveTask) → is_common_multiple (periods_of m tasks) m.period ≡ true
periods_common p m fits [] = refl
periods_common p m fits (a ∷ tasks) = by (period_of_task m a.task) refl (periods_common p m fits tasks)
  where
    by : (o : Option ℕ) → period_of_task m a.task ≡ o → is_common_multiple (periods_of m tasks) m.period ≡ true → is_common_multiple (cons_option o (periods_of m tasks)) m.period ≡ true
    by None e rest = rest
    by (Some k) e rest = and_from _ _ (is_divided k m.period (period_divides p m fits a.task k e).1) rest

-- the common period of tasks is no longer than the mode's
pub common_within : (p : GiottoProgram) (m : ModeDeclaration) → ModeFits p m → (tasks : List ActiveTask) (l : ℕ) → IsCommonPeriod (periods_of m tasks) (Some l) → (0 < l) × (l ≤ m.period)
common_within p m fits tasks l is = by (periods_of m tasks) is (periods_common p m fits tasks)
  where
    by : (ks : List ℕ) → IsCommonPeriod ks (Some l) → is_common_multiple ks m.period ≡ true → (0 < l) × (l ≤ m.period)
    by [] is e = absurd (cc)
    by (k ∷ ks) is e = (is.positive, is.least m.period fits.positive e)

-- one more task
pub with_none : (ks : List ℕ) (o : Option ℕ) → IsCommonPeriod ks o → IsCommonPeriod (ks ++ []) o
with_none ks o is = subst (λ ns. IsCommonPeriod ns o) (sym (append-nil ks)) is

pub with_first : (ks : List ℕ) (k : ℕ) → IsCommonPeriod ks None → 0 < k → IsCommonPeriod (ks ++ k ∷ []) (Some k)
with_first [] k is some = of_one k some
with_first (n ∷ ks) k is some = absurd is

pub with_more : (ks : List ℕ) (k other l : ℕ) → IsCommonPeriod ks (Some other) → IsLeastCommonMultiple (other ∷ k ∷ []) l → IsCommonPeriod (ks ++ k ∷ []) (Some l)
with_more [] k other l is both = absurd (cc)
with_more (n ∷ ks) k other l is both = of_more (n ∷ ks) k other l is both

pub periods_more : (p : GiottoProgram) (m : ModeDeclaration) (active : List Active) (i : ℕ) (a : Active) → i < length active → a ≡ get_or active i a
    → periods_of m (map (active_of p) (take (i + 1) active)) ≡ periods_of m (map (active_of p) (take i active)) ++ cons_option (period_of_task m (name_of_task p a.task)) []
periods_more p m active i a lt is =
    ap (λ xs. periods_of m (map (active_of p) xs)) (take_more active i a lt ∙ ap (λ x. take i active ++ x ∷ []) (sym is))
    ∙ ap (periods_of m) (map-append (active_of p) (take i active) (a ∷ []))
    ∙ filter_map-append (λ (a : ActiveTask). period_of_task m a.task) (map (active_of p) (take i active)) (active_of p a ∷ [])

-- the mode time after a switch, by the common period
pub before_end_none : (m t : ModeDeclaration) (time : ℕ) (ks : List ℕ) → IsCommonPeriod ks None → time_before_end m t time ks ≡ 0
before_end_none m t time [] is = refl
before_end_none m t time (k ∷ ks) is = absurd is

pub before_end : (m t : ModeDeclaration) (time : ℕ) (ks : List ℕ) (l : ℕ) → 0 < m.period → is_common_multiple ks m.period ≡ true → IsCommonPeriod ks (Some l) → time_before_end m t time ks ≡ t.period - (l - time % l)
before_end m t time [] l some e is = absurd (cc)
before_end m t time (k ∷ ks) l some e is = ap (λ n. t.period - (n - time % n)) (least_is m.period (k ∷ ks) l is (is.least m.period some e))

-- a common period and one more period are positive, and their product is small
pub small_product : (p : GiottoProgram) (fits : ProgramFits p) (mode : ℕ) (tasks : List ActiveTask) (x : Name) (l k : ℕ) → (length p.modes ≤ mode → ⊥)
    → ((m : ModeDeclaration) → slice_get p.modes mode ≡ Some m → IsCommonPeriod (periods_of m tasks) (Some l)) → ((m : ModeDeclaration) → slice_get p.modes mode ≡ Some m → Some k ≡ period_of_task m x)
    → (0 < l) × (0 < k) × (l * k < 2 ^ 64)
small_product p fits mode tasks x l k there common period = ⊎_elim (λ found. within found.0 found.2) (λ past. absurd (there past.0)) (slice_get_cases p.modes mode).1
  where
    within : (m : ModeDeclaration) → slice_get p.modes mode ≡ Some m → (0 < l) × (0 < k) × (l * k < 2 ^ 64)
    within m at =
        let f = mode_fits_at p fits mode m at in
        let first = common_within p m f tasks l (common m at) in
        let second = period_divides p m f x k (sym (period m at)) in
        let short : k ≤ m.period = le_of_dvd f.positive second.1 in
        let product : l * k ≤ l * 1000000 = mul-le-mul_left l (omega (arith, short, f.short)) in
        (first.0, second.0, omega (arith, product, first.1, f.short))

pub common_positive : (p : GiottoProgram) (fits : ProgramFits p) (mode : ℕ) (tasks : List ActiveTask) (l : ℕ) → ((m : ModeDeclaration) → slice_get p.modes mode ≡ Some m → IsCommonPeriod (periods_of m tasks) (Some l)) → (length p.modes ≤ mode → ⊥) → 0 < l
common_positive p fits mode tasks l common there =
    ⊎_elim (λ found. (common_within p found.0 (mode_fits_at p fits mode found.0 found.2) tasks l (common found.0 found.2)).0) (λ past. absurd (there past.0)) (slice_get_cases p.modes mode).1

-- the element at a place of the images
pub mapped_there : {X Y : Type 0} (f : X → Y) (xs : List X) (k : ℕ) (d : X) (y : Y) → slice_get (map f xs) k ≡ Some y → f (get_or xs k d) ≡ y
mapped_there f [] k d y at = absurd (cc)
mapped_there f (x ∷ xs) zero d y at = some_same _ _ at
mapped_there f (x ∷ xs) (suc k) d y at = mapped_there f xs k d y at
