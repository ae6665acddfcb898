-- What is known of a tenant after the second half of an instant.
use Rattle.std.proofs.Common.{◌≡◌, ℕ, ◌+◌, ◌%◌, ◌<◌, ◌≤◌, Bool, true, false, cond, not, nat_eq, ◌&&◌, ℤ, List, [], ◌∷◌, ◌++◌, length, map, filter, drop, Option, Some, None, refl, ap, sym, subst, ◌∙◌, arith}
use Rattle.std.specs.Prelude.{◌==◌, slice_get, slice_index_or}
use Rattle.std.specs.Option.{option_map, option_map_or}
use Rattle.std.specs.List.{list_all, AllByRecursion}
use Rattle.std.proofs.lemmas.Bool.{and_parts, and_from, or_parts, false≢true, ne_eqb, eq-eqb, eqb-true, false_from_ne_true, not-true}
use Rattle.std.proofs.lemmas.List.{length-map, length-drop, take-append-drop}
use Rattle.std.proofs.lemmas.Nat.{mod_below}
use Rattle.std.proofs.lemmas.List.Folds.{list_all-append, list_all-map}
use Rattle.std.proofs.lemmas.Simd.{map-map}
use Rattle.std.proofs.lemmas.Option.{slice_get-map, slice_get-get_or, slice_get_within}
use Rattle.giotto_tasks.specs.declared.names.Name.{Name}
use Rattle.giotto_tasks.specs.Names.{Valuation, same_name, is_among}
use Rattle.giotto_tasks.specs.Sound.{all_different}
use Rattle.giotto_tasks.specs.Syntax.{TaskBody}
use Rattle.rig_model.specs.declared.text.programs.Mode.{Mode}
use Rattle.rig_model.specs.text.ProgramTrees as tree
use Rattle.rig_model.specs.text.Program.{TaskDeclaration, TaskInvocation, ModeDeclaration, GiottoProgram}
use Rattle.tenant_slots.specs.well_formed.cited.Facts.{ProgramFits}
use Rattle.tenant_slots.specs.cited.Due.{IsQuietUntil}
use Rattle.tenant_slots.specs.Places.{name_of_task}
use Rattle.tenant_slots.proofs.cited.Numbered.{mode_fits_at}
use Rattle.tenant_state.specs.declared.tenants.Active.{Active}
use Rattle.tenant_state.specs.Jobs.{job_in, released_at}
use Rattle.rig_model.specs.config.Intervals.{whole}
use Rattle.rig_model.specs.Row.{running, ActiveTask, Row}
use Rattle.rig_model.specs.SecondHalf.{released, all_released}
use Rattle.tenant_state.specs.Standing.{is_another, all_different_releases, most_released}
use Rattle.tenant_state.specs.inner.Invoked.{IsInvokedIn}
use Rattle.tenant_state.specs.cited.Standing.{AreReleased}
use Rattle.rig_model.specs.grants.Grants.{no_rows}
use Rattle.tenant_state.specs.Tenants.{active_of}
use Rattle.tenant_state.specs.inner.Tenants.{AreInvoked, IsActiveIn, IsTenant, its_job, released_in}
use Rattle.tenant_state.proofs.HalfStands.{released_by, new_releases}
use Rattle.tenant_state.proofs.Invoked.{invoked_behind}
use Rattle.tenant_state.proofs.SecondHalfSteps.{those_released}
use Rattle.tenant_state.proofs.TenantFacts.{early_of}
use Rattle.giotto_tasks.proofs.cited.TestLemmas.{and_true, and_false, not_either}
use Rattle.giotto_tasks.proofs.cited.NameLemmas.{same_name_is, same_name_self}
use Rattle.giotto_tasks.proofs.cited.ListLemmas.{all_of, all_wider, all_map, all_that, filter-map, find_passes, list_all-filter, some_same}

other_by_release : (a b : ActiveTask) → (a.release ≡ b.release → ⊥) → is_another a b ≡ true
other_by_release a b apart = ap not (ap (λ same. same_name a.task b.task && same) (ne_eqb a.release b.release apart) ∙ and_false _)

-- an active task is still one at the next instant
pub active_later : (p : GiottoProgram) (n : ℕ) (xs : List Active) → AllByRecursion (IsActiveIn p n) xs → AllByRecursion (IsActiveIn p (n + 1)) xs
active_later p n xs = all_map (IsActiveIn p n) (IsActiveIn p (n + 1)) xs (λ a is. record { early = omega (arith, is.early); declared = is.declared })

-- older releases and those of this instant differ
other_joined : (n : ℕ) (older new : List ActiveTask) → AllByRecursion (λ (a : ActiveTask). a.release < n) older → AllByRecursion (λ (a : ActiveTask). a.release ≡ n) new
    → all_different_releases older ≡ true → all_different_releases new ≡ true → all_different_releases (older ++ new) ≡ true
other_joined n [] new before now h k = k
other_joined n (a ∷ rest) new before now h k =
    let both = and_parts (list_all (is_another a) rest) (all_different_releases rest) h in
    let early = before.0 in
    let apart : list_all (is_another a) new ≡ true = all_that (is_another a) (λ (b : ActiveTask). b.release ≡ n) (λ b at. other_by_release a b (λ e. absurd (omega (arith, early, e, at)))) new now in
    and_from (list_all (is_another a) (rest ++ new)) (all_different_releases (rest ++ new)) (list_all-append (is_another a) rest new ∙ and_from _ _ both.0 apart) (other_joined n rest new before.1 now both.1 k)

-- if two names differ, they differ in either order
other_name : (x y : Name) → same_name x y ≡ false → same_name y x ≡ false
other_name x y e = false_from_ne_true _ (λ same.
    let one : y ≡ x = same_name_is y x same in
    false≢true (sym e ∙ ap (same_name x) one ∙ same_name_self x))

-- the tasks that a mode's invocations release are different
abbrev tasks_of : List TaskInvocation → List Name
tasks_of is = map (λ (i : TaskInvocation). i.task) is

released_other : (p : GiottoProgram) (m : ModeDeclaration) (time n : ℕ) (is : List TaskInvocation) (ports : Valuation) → all_different (tasks_of is) ≡ true
    → all_different_releases (all_released p m time n is ports) ≡ true
released_other p m time n is ports = (released_by p m time n
    (λ is new. ((x : Name) → is_among (tasks_of is) x ≡ false → list_all (λ (b : ActiveTask). not (same_name x b.task)) new ≡ true) × (all_different (tasks_of is) ≡ true → all_different_releases new ≡ true))
    ((λ x h. refl), λ h. refl)
    (λ i is later on. ((λ x h. on.0 x (or_parts _ _ h).1), λ h. on.1 (and_parts _ _ h).1))
    (λ i is later ports t due e on.
    let same : t.name ≡ i.task = same_name_is t.name i.task (find_passes (λ (t : TaskDeclaration). same_name t.name i.task) p.tasks t e) in (
      (λ x h. and_from _ _ (ap not (ap (same_name x) same ∙ other_name i.task x (or_parts _ _ h).0)) (on.0 x (or_parts _ _ h).1)),
      λ h.
          let both = and_parts (not (is_among (tasks_of is) i.task)) (all_different (tasks_of is)) h in
          and_from _ _ (all_wider (λ (b : ActiveTask). not (same_name i.task b.task)) (is_another (released n i ports t))
          (λ b d. ap (λ y. not (same_name y b.task && nat_eq n b.release)) same ∙ ap (λ s. not (s && nat_eq n b.release)) (not-true _ d)) later (on.0 i.task (not-true _ both.0)))
          (on.1 both.1),
    ))
    is ports).1

module _ (p : GiottoProgram) (kept : ProgramFits p) (mode : ℕ) where
  -- the mode that the code reads at its place
  pub mode_read : (modes : List Mode) (d : Mode) → map tree.mode_of modes ≡ p.modes → mode < length p.modes → slice_get p.modes mode ≡ Some (tree.mode_of (slice_index_or modes mode d))
  mode_read modes d same lt =
      sym (ap (λ ms. slice_get ms mode) same) ∙ slice_get-map tree.mode_of modes mode ∙ ap (option_map tree.mode_of) (slice_get-get_or modes mode d (omega (arith, lt, ap length (sym same) ∙ length-map modes tree.mode_of)))

  module _ (m : ModeDeclaration) (at : slice_get p.modes mode ≡ Some m) where
    -- an instant at which the mode's tasks are released, whatever the mode before it was
    pub tenant_behind : (from before time next since later period n : ℕ) (ports : Valuation) (old new gone : List Active) (values written : List ℤ) (shares : List (Option TaskBody)) → period ≡ m.period → IsTenant running (Some p) from before since old gone values shares n
        → AreInvoked p m time n ports old new written → ((o : ModeDeclaration) → slice_get p.modes mode ≡ Some o → IsQuietUntil o time next) → ((o : ModeDeclaration) → slice_get p.modes mode ≡ Some o → IsQuietUntil o time next → IsQuietUntil o ((time + 1) % period) later)
        → AllByRecursion (IsInvokedIn p m) old
        → IsTenant running (Some p) mode ((time + 1) % period) later new gone written shares (n + 1)
    tenant_behind from before time next since later period n ports old new gone values written shares lasts is ran now quiet invoked =
        let fits = mode_fits_at p kept mode m at in
        let below = mod_below (time + 1) period (omega (arith, lasts, fits.positive)) in
        record {
          short_time = omega (arith, below, lasts, fits.short);
          rests = λ e. absurd (false≢true (sym e));
          different = ap all_different_releases ran.tasks
              ∙ other_joined n (map (active_of p) old) (all_released p m time n m.invocations ports) (early_of (no_rows (record { place = 0; roster = []; most_offers = 0; most_binds = 0; bounds = whole })) from before since old gone values shares n (Some p) is.fits) (new_releases p m time n m.invocations ports)
              is.different (released_other p m time n m.invocations ports fits.tasks_once);
          fits = record {
            long = ran.long;
            mode_there = slice_get_within p.modes mode m at;
            quiet = λ o there. quiet o there (now o there);
            each = ran.each;
            invoked = λ o there. subst (λ m. AllByRecursion (IsInvokedIn p m) new) (some_same m o (sym at ∙ there)) (invoked_behind p m time n ports old new written ran invoked);
            each_ended = is.fits.each_ended;
            share_each = is.fits.share_each;
          };
        }

module _ (p : GiottoProgram) (n : ℕ) where
  abbrev names : List Active → List Name
  names active = map (λ (a : Active). name_of_task p a.task) active

  abbrev ReleasedNow : List Active → Type 0
  ReleasedNow active = AllByRecursion (λ (a : ActiveTask). a.release ≡ n) (map (active_of p) active)

  -- releases of one instant are of different tasks
  others_named : (a : Active) (rest : List Active) → a.release ≡ n → ReleasedNow rest → list_all (is_another (active_of p a)) (map (active_of p) rest) ≡ true
      → not (is_among (names rest) (name_of_task p a.task)) ≡ true
  others_named a [] at now h = refl
  others_named a (b ∷ rest) at now h =
      let both = and_parts (is_another (active_of p a) (active_of p b)) (list_all (is_another (active_of p a)) (map (active_of p) rest)) h in
      let apart = ap not (other_name (name_of_task p a.task) (name_of_task p b.task) (not-true _
      (ap not (sym (and_true _) ∙ ap (λ t. same_name (name_of_task p a.task) (name_of_task p b.task) && t) (sym (eq-eqb a.release b.release (at ∙ sym now.0)))) ∙ both.0))) in
      not_either (same_name (name_of_task p b.task) (name_of_task p a.task)) _ apart (others_named a rest at now.1 both.1)

  names_differ : (active : List Active) → ReleasedNow active → all_different_releases (map (active_of p) active) ≡ true → all_different (names active) ≡ true
  names_differ [] now h = refl
  names_differ (a ∷ rest) now h =
      let both = and_parts (list_all (is_another (active_of p a)) (map (active_of p) rest)) (all_different_releases (map (active_of p) rest)) h in
      and_from _ _ (others_named a rest now.0 now.1 both.0) (names_differ rest now.1 both.1)

  now_in : (items : List Active) → ReleasedNow (released_in n items)
  now_in [] = tt
  now_in (a ∷ rest) = by (nat_eq a.release n) refl (now_in rest)
    where
      by : (b : Bool) → nat_eq a.release n ≡ b → ReleasedNow (released_in n rest) → ReleasedNow (cond b (a ∷ released_in n rest) (released_in n rest))
      by true at now = (eqb-true a.release n at, now)
      by false at now = now

  different_in : (items : List Active) → all_different_releases (map (active_of p) items) ≡ true → all_different_releases (map (active_of p) (released_in n items)) ≡ true
  different_in [] h = refl
  different_in (a ∷ rest) h =
      let both = and_parts (list_all (is_another (active_of p a)) (map (active_of p) rest)) (all_different_releases (map (active_of p) rest)) h in
      by (nat_eq a.release n)
      (list_all-map (is_another (active_of p a)) (active_of p) (released_in n rest)
      ∙ list_all-filter (λ b. is_another (active_of p a) (active_of p b)) (λ b. nat_eq b.release n) rest (sym (list_all-map (is_another (active_of p a)) (active_of p) rest) ∙ both.0))
      (different_in rest both.1)
    where
      by : (b : Bool) → list_all (is_another (active_of p a)) (map (active_of p) (released_in n rest)) ≡ true → all_different_releases (map (active_of p) (released_in n rest)) ≡ true
          → all_different_releases (map (active_of p) (cond b (a ∷ released_in n rest) (released_in n rest))) ≡ true
      by true others different = and_from _ _ others different
      by false others different = different

  -- the tasks that this instant released are different
  pub differ_in : (items : List Active) → all_different_releases (map (active_of p) items) ≡ true → all_different (names (released_in n items)) ≡ true
  differ_in items different = names_differ (released_in n items) (now_in items) (different_in items different)

  -- their jobs
  pub jobs_in : (tenant : ℕ) (row : Row) (items : List Active) → row.program ≡ Some p → row.active ≡ map (active_of p) items → released_at tenant n row ≡ map (its_job tenant p) (released_in n items)
  jobs_in tenant row items program active =
      ap (λ o. option_map_or (λ p. map (job_in p tenant) (filter (λ (a : ActiveTask). a.release == n) row.active)) o []) program
      ∙ ap (λ xs. map (job_in p tenant) (filter (λ (a : ActiveTask). a.release == n) xs)) active
      ∙ ap (map (job_in p tenant)) (filter-map (active_of p) (λ (a : ActiveTask). a.release == n) (λ (a : Active). nat_eq a.release n) items (all_of (λ a. refl) items))
      ∙ map-map (job_in p tenant) (active_of p) (released_in n items)

-- an instant makes no more jobs than it can release
pub few_released : (tenant : ℕ) (before after : Row) → AllByRecursion (λ (a : ActiveTask). a.release < before.next_tick) before.active → AreReleased before after
    → length (released_at tenant before.next_tick after) ≤ most_released before
few_released tenant before after early is = by after.program
  where
    new : List ActiveTask
    new = drop (length before.active) after.active

    these : filter (λ (a : ActiveTask). a.release == before.next_tick) after.active ≡ new
    these =
        ap (filter (λ (a : ActiveTask). a.release == before.next_tick)) (sym (take-append-drop (length before.active) after.active) ∙ ap (λ xs. xs ++ new) is.older)
        ∙ those_released before.next_tick before.active new early is.newer

    by : (o : Option GiottoProgram) → length (option_map_or (λ p. map (job_in p tenant) (filter (λ (a : ActiveTask). a.release == before.next_tick) after.active)) o []) ≤ most_released before
    by (Some p) =
        omega (
          arith,
          length-map (filter (λ (a : ActiveTask). a.release == before.next_tick) after.active) (job_in p tenant),
          ap length these,
          length-drop (length before.active) after.active,
          is.few,
        )
    by None = omega arith
