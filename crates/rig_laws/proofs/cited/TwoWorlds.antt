-- The part of a list that is kept for a tenant: it is legal if the list is, and it gives the tenant the same view.
use Rattle.std.proofs.Common.{◌≡◌, ℕ, ◌+◌, Bool, true, false, cond, ◌&&◌, ◌||◌, eqb, ℤ, List, [], ◌∷◌, ◌++◌, length, map, Option, Some, None, refl, sym, ap, ◌∙◌, subst, append_assoc, arith}
use Rattle.std.specs.Prelude.{nat_lt, ◌-◌, ◌^◌}
use Rattle.std.specs.List.{cons_option, filter_map, flat_map, AllByRecursion}
use Rattle.std.specs.Option.{option_and_then}
use Rattle.std.proofs.lemmas.Bool.{and_from, and_parts, eq-eqb, false_from_ne_true}
use Rattle.std.proofs.lemmas.Bool.Decides.{nat_tests}
use Rattle.std.proofs.lemmas.List.Folds.{list_any-append}
use Rattle.giotto_tasks.specs.declared.names.Name.{Name}
use Rattle.rig_model.specs.declared.events.Event.{Event}
use Rattle.rig_model.specs.declared.events.Event.TheVariants.{Own, Tick, Done}
use Rattle.rig_model.specs.grants.Grants.{place_in}
use Rattle.rig_model.specs.declared.grants.rows.Bind.{Bind}
use Rattle.rig_model.specs.declared.jobs.JobId.{JobId}
use Rattle.rig_model.specs.config.Roster.{budgets_at, is_tenant}
use Rattle.rig_model.specs.Jobs.{same_job, is_active, job_of}
use Rattle.rig_model.specs.Readings.{readings_within}
use Rattle.rig_model.specs.Granted.{granted_by, granted_from, granted_to, granted_along}
use Rattle.rig_model.specs.FirstHalf.{first_half_of, unfinished_tasks}
use Rattle.rig_model.specs.Row.{Row}
use Rattle.rig_model.specs.Answers.{answers_along, answers_of}
use Rattle.rig_model.specs.Base.{IsBase, Setting}
use Rattle.rig_model.specs.Completions.{has_completion}
use Rattle.rig_model.specs.Legal.{next_tick, was_released, may_follow, is_legal}
use Rattle.rig_model.specs.Sources.{is_source, suppliers_of, sources_before, sources_from, sources_of, kept_from, kept_of}
use Rattle.rig_model.specs.Tenancies.{roster_of}
use Rattle.rig_model.specs.Views.{LocalEvent, command, instant, run_of, view_of, row_of}
use Rattle.rig_laws.proofs.Histories.{own_instant}
use Rattle.rig_laws.proofs.cited.Releases.{released_own, released_done}
use Rattle.rig_model.proofs.cited.JobNames.{same_job_is}
use Rattle.giotto_tasks.proofs.cited.ListLemmas.{all_map, map_same}
use Rattle.giotto_tasks.proofs.cited.TestLemmas.{either, or_true}

-- a source in two joined lists is in one of them
pub source_of_both : (xs ys : List ℕ) (u : ℕ) → is_source (xs ++ ys) u ≡ (is_source xs u || is_source ys u)
source_of_both xs ys u = list_any-append (λ t. eqb t u) xs ys

pub in_front : (xs ys : List ℕ) (u : ℕ) → is_source xs u ≡ true → is_source (xs ++ ys) u ≡ true
in_front xs ys u e = source_of_both xs ys u ∙ ap (λ b. b || is_source ys u) e

pub behind : (xs ys : List ℕ) (u : ℕ) → is_source ys u ≡ true → is_source (xs ++ ys) u ≡ true
behind xs ys u e = source_of_both xs ys u ∙ (ap (λ b. is_source xs u || b) e ∙ or_true (is_source xs u))

-- a tenant is its own source
pub own_source : (t : ℕ) → is_source (t ∷ []) t ≡ true
own_source t = ap (λ b. b || false) (eq-eqb t t refl)

pub same_place : (t u : ℕ) → eqb t u ≡ true → t ≡ u
same_place t u e = grind (arith, nat_tests)

-- what the list of one source has, the flattened lists of all sources have
pub each_has : (f : ℕ → List ℕ) (sources : List ℕ) (t u : ℕ) → is_source sources t ≡ true → is_source (f t) u ≡ true → is_source (flat_map f sources) u ≡ true
each_has f [] t u e h = absurd (cc)
each_has f (s ∷ sources) t u e h =
    either (eqb s t) (is_source sources t) (is_source (f s ++ flat_map f sources) u ≡ true) e
    (λ is. in_front (f s) (flat_map f sources) u (ap (λ k. is_source (f k) u) (same_place s t is) ∙ h))
    (λ g. behind (f s) (flat_map f sources) u (each_has f sources t u g h))

module _ (setting : Setting) where
  -- a source after an event is a source before it
  pub source_before : (e : Event) (past : List Event) (sources : List ℕ) (u : ℕ) → is_source sources u ≡ true → is_source (sources_before setting e past sources) u ≡ true
  source_before (Own t c) past sources u h = h
  source_before (Done j) past sources u h = h
  source_before (Tick frame) past sources u h = in_front sources _ u h

  -- a supplier of a source is a source before the tick
  supplier_before : (frame : List ℤ) (past : List Event) (sources : List ℕ) (t u : ℕ) → is_source sources t ≡ true → is_source (suppliers_of setting (row_of setting past t)) u ≡ true
      → is_source (sources_before setting (Tick frame) past sources) u ≡ true
  supplier_before frame past sources t u e h = behind sources _ u (each_has (λ t. suppliers_of setting (row_of setting past t)) sources t u e h)

  -- what holds of all suppliers holds along the binds that name them
  along_binds : (P : ℕ → Type 0) (binds : List Bind) → ((u : ℕ) → is_source (filter_map (λ (b : Bind). place_in (roster_of setting.config) b.tenant) binds) u ≡ true → P u)
      → AllByRecursion (λ (b : Bind). (u : ℕ) → place_in (roster_of setting.config) b.tenant ≡ Some u → P u) binds
  along_binds P [] each = tt
  along_binds P (b ∷ binds) each = (here (place_in (roster_of setting.config) b.tenant) each, along_binds P binds (rest (place_in (roster_of setting.config) b.tenant) each))
    where
      named : List ℕ
      named = filter_map (λ (b : Bind). place_in (roster_of setting.config) b.tenant) binds

      here : (o : Option ℕ) → ((u : ℕ) → is_source (cons_option o named) u ≡ true → P u) → (u : ℕ) → o ≡ Some u → P u
      here None all u e = absurd (cc)
      here (Some v) all u e = let same : v ≡ u = cc in all u (ap (λ b. b || is_source named u) (eq-eqb v u same))

      rest : (o : Option ℕ) → ((u : ℕ) → is_source (cons_option o named) u ≡ true → P u) → (u : ℕ) → is_source named u ≡ true → P u
      rest None all u h = all u h
      rest (Some v) all u h = all u (ap (λ b. eqb v u || b) h ∙ or_true (eqb v u))

  -- completions of a source's jobs are kept
  pub kept_completions : (past : List Event) (sources : List ℕ) (j : JobId) → is_source sources j.tenant ≡ true
      → has_completion setting (kept_from setting sources past) j ≡ has_completion setting past j
  kept_completions [] sources j e = refl
  kept_completions (Own u c ∷ past) sources j e = by (is_source sources u) (kept_completions past sources j e)
    where
      kept : List Event
      kept = kept_from setting sources past

      by : (b : Bool) → has_completion setting kept j ≡ has_completion setting past j → has_completion setting (cond b (Own u c ∷ kept) kept) j ≡ has_completion setting past j
      by true same = same
      by false same = same
  kept_completions (Tick frame ∷ past) sources j e =
      kept_completions past (sources_before setting (Tick frame) past sources) j (source_before (Tick frame) past sources j.tenant e)
  kept_completions (Done i ∷ past) sources j e = by (is_source sources i.tenant) refl (kept_completions past sources j e)
    where
      kept : List Event
      kept = kept_from setting sources past

      by : (b : Bool) → is_source sources i.tenant ≡ b → has_completion setting kept j ≡ has_completion setting past j
          → has_completion setting (cond b (Done i ∷ kept) kept) j ≡ (same_job i j || has_completion setting past j)
      by true is same = ap (λ b. same_job i j || b) same
      by false is same =
          let other : same_job i j ≡ false = false_from_ne_true _ (λ h.
          let bad : true ≡ false = sym e ∙ (ap (λ (k : JobId). is_source sources k.tenant) (sym (same_job_is i j h)) ∙ is) in absurd (cc)) in
          same ∙ sym (ap (λ b. b || has_completion setting past j) other)

  -- an instant is the same for a source if the rows and the completions of all sources before it are the same
  module _ (kept past : List Event) (frame : List ℤ) (sources : List ℕ)
      (same : (u : ℕ) → is_source sources u ≡ true → row_of setting kept u ≡ row_of setting past u)
      (completed : (j : JobId) → is_source sources j.tenant ≡ true → has_completion setting kept j ≡ has_completion setting past j) where
    abbrev left : List Event → ℕ → List Name
    left events u = unfinished_tasks (λ a. has_completion setting events (job_of u a)) (row_of setting events u)

    abbrev half : List Event → ℕ → Row
    half events u = first_half_of (left events u) (row_of setting events u)

    same_left : (u : ℕ) → is_source sources u ≡ true → left kept u ≡ left past u
    same_left u e = λ k. unfinished_tasks (λ a. completed (job_of u a) e k) (same u e k)

    same_half : (u : ℕ) → is_source sources u ≡ true → half kept u ≡ half past u
    same_half u e = λ k. first_half_of (same_left u e k) (same u e k)

    same_granted : (t : ℕ) → is_source sources t ≡ true → ((u : ℕ) → is_source (suppliers_of setting (row_of setting past t)) u ≡ true → is_source sources u ≡ true)
        → granted_to (roster_of setting.config) (row_of setting kept) (half kept) t ≡ granted_to (roster_of setting.config) (row_of setting past) (half past) t
    same_granted t e named =
        ap (λ (row : Row). granted_along row.binds (map (granted_by (roster_of setting.config) (row_of setting kept) (half kept) t) row.binds)) (same t e)
        ∙ ap (granted_along (row_of setting past t).binds)
        (map_same _ _ (row_of setting past t).binds (all_map _ _ (row_of setting past t).binds each (along_binds (λ u. is_source sources u ≡ true) (row_of setting past t).binds named)))
      where
        by : (b : Bind) (o : Option ℕ) → ((u : ℕ) → o ≡ Some u → is_source sources u ≡ true)
            → option_and_then (granted_from (roster_of setting.config) (row_of setting kept) (half kept) t b.actuator) o
            ≡ option_and_then (granted_from (roster_of setting.config) (row_of setting past) (half past) t b.actuator) o
        by b None is = refl
        by b (Some u) is = λ k. granted_from (roster_of setting.config) (λ v. same u (is u refl) k) (λ v. same_half u (is u refl) k) t b.actuator u

        each : (b : Bind) → ((u : ℕ) → place_in (roster_of setting.config) b.tenant ≡ Some u → is_source sources u ≡ true)
            → granted_by (roster_of setting.config) (row_of setting kept) (half kept) t b ≡ granted_by (roster_of setting.config) (row_of setting past) (half past) t b
        each b is = by b (place_in (roster_of setting.config) b.tenant) is

    same_instant : (t : ℕ) → is_source sources t ≡ true → ((u : ℕ) → is_source (suppliers_of setting (row_of setting past t)) u ≡ true → is_source sources u ≡ true)
        → own_instant setting kept frame t ≡ own_instant setting past frame t
    same_instant t e named =
        let granted = same_granted t e named in
        λ k. record { readings = readings_within (budgets_at setting.config t).reads frame; unfinished = same_left t e k; granted = granted k }

  -- the kept part gives each source at the end the same view
  pub kept_views : (past : List Event) (sources : List ℕ) (t : ℕ) → is_source sources t ≡ true → view_of setting (kept_from setting sources past) t ≡ view_of setting past t
  kept_views [] sources t e = refl
  kept_views (Own u c ∷ past) sources t e = by (is_source sources u) refl (kept_views past sources t e)
    where
      kept : List Event
      kept = kept_from setting sources past

      view : List LocalEvent
      view = view_of setting past t

      by : (b : Bool) → is_source sources u ≡ b → view_of setting kept t ≡ view → view_of setting (cond b (Own u c ∷ kept) kept) t ≡ cond (eqb u t) (command c ∷ view) view
      by true is same = ap (λ v. cond (eqb u t) (command c ∷ v) v) same
      by false is same =
          let other : eqb u t ≡ false = false_from_ne_true _ (λ h.
          let bad : true ≡ false = sym e ∙ (ap (is_source sources) (sym (same_place u t h)) ∙ is) in absurd (cc)) in
          same ∙ sym (ap (λ b. cond b (command c ∷ view) view) other)
  kept_views (Done j ∷ past) sources t e = by (is_source sources j.tenant) (kept_views past sources t e)
    where
      kept : List Event
      kept = kept_from setting sources past

      by : (b : Bool) → view_of setting kept t ≡ view_of setting past t → view_of setting (cond b (Done j ∷ kept) kept) t ≡ view_of setting past t
      by true same = same
      by false same = same
  kept_views (Tick frame ∷ past) sources t e =
      let before = sources_before setting (Tick frame) past sources in
      let stays : is_source before t ≡ true = source_before (Tick frame) past sources t e in
      let each : (u : ℕ) → is_source before u ≡ true → view_of setting (kept_from setting before past) u ≡ view_of setting past u = λ u h. kept_views past before u h in
      let same = same_instant (kept_from setting before past) past frame before (λ u h. ap (run_of setting u) (each u h)) (λ j h. kept_completions past before j h)
      t stays (λ u h. supplier_before frame past sources t u e h) in
      λ k. instant (same k) ∷ each t stays k

  pub kept_rows : (past : List Event) (sources : List ℕ) (t : ℕ) → is_source sources t ≡ true → row_of setting (kept_from setting sources past) t ≡ row_of setting past t
  kept_rows past sources t e = ap (run_of setting t) (kept_views past sources t e)

  pub kept_answers : (past : List Event) (t : ℕ) → answers_of setting (kept_of setting past t) t ≡ answers_of setting past t
  kept_answers past t = ap (answers_along setting t) (kept_views past (t ∷ []) t (own_source t))

  -- all ticks stay
  kept_ticks : (past : List Event) (sources : List ℕ) → next_tick setting (kept_from setting sources past) ≡ next_tick setting past
  kept_ticks [] sources = refl
  kept_ticks (Tick frame ∷ past) sources = ap (λ n. n + 1) (kept_ticks past (sources_before setting (Tick frame) past sources))
  kept_ticks (Own u c ∷ past) sources = by (is_source sources u) (kept_ticks past sources)
    where
      by : (b : Bool) → next_tick setting (kept_from setting sources past) ≡ next_tick setting past
          → next_tick setting (cond b (Own u c ∷ kept_from setting sources past) (kept_from setting sources past)) ≡ next_tick setting past
      by true same = same
      by false same = same
  kept_ticks (Done j ∷ past) sources = by (is_source sources j.tenant) (kept_ticks past sources)
    where
      by : (b : Bool) → next_tick setting (kept_from setting sources past) ≡ next_tick setting past
          → next_tick setting (cond b (Done j ∷ kept_from setting sources past) (kept_from setting sources past)) ≡ next_tick setting past
      by true same = same
      by false same = same

  module _ (base : IsBase setting.config setting.base) where
    -- a source's jobs are released at the same instants
    kept_releases : (past : List Event) (sources : List ℕ) (j : JobId) → is_source sources j.tenant ≡ true
        → was_released setting (kept_from setting sources past) j ≡ was_released setting past j
    kept_releases [] sources j e = refl
    kept_releases (Own u c ∷ past) sources j e = by (is_source sources u) (kept_releases past sources j e)
      where
        kept : List Event
        kept = kept_from setting sources past

        by : (b : Bool) → was_released setting kept j ≡ was_released setting past j
            → was_released setting (cond b (Own u c ∷ kept) kept) j ≡ was_released setting (Own u c ∷ past) j
        by true same = released_own setting base kept u c j ∙ (same ∙ sym (released_own setting base past u c j))
        by false same = same ∙ sym (released_own setting base past u c j)
    kept_releases (Done i ∷ past) sources j e = by (is_source sources i.tenant) (kept_releases past sources j e)
      where
        kept : List Event
        kept = kept_from setting sources past

        by : (b : Bool) → was_released setting kept j ≡ was_released setting past j
            → was_released setting (cond b (Done i ∷ kept) kept) j ≡ was_released setting (Done i ∷ past) j
        by true same = released_done setting base kept i j ∙ (same ∙ sym (released_done setting base past i j))
        by false same = same ∙ sym (released_done setting base past i j)
    kept_releases (Tick frame ∷ past) sources j e =
        let before = sources_before setting (Tick frame) past sources in
        let same = kept_releases past before j (source_before (Tick frame) past sources j.tenant e) in
        let row = kept_rows (Tick frame ∷ past) sources j.tenant e in
        λ k. is_active (row k) j || same k

    kept_from_legal : (past : List Event) (sources : List ℕ) → is_legal setting past ≡ true → is_legal setting (kept_from setting sources past) ≡ true
    kept_from_legal [] sources legal = refl
    kept_from_legal (Own u c ∷ past) sources legal =
        let parts = and_parts (is_tenant setting.config u) (is_legal setting past) legal in by (is_source sources u) parts.0 (kept_from_legal past sources parts.1)
      where
        kept : List Event
        kept = kept_from setting sources past

        by : (b : Bool) → is_tenant setting.config u ≡ true → is_legal setting kept ≡ true → is_legal setting (cond b (Own u c ∷ kept) kept) ≡ true
        by true may rest = and_from (is_tenant setting.config u) (is_legal setting kept) may rest
        by false may rest = rest
    kept_from_legal (Done j ∷ past) sources legal =
        let parts = and_parts (was_released setting past j) (is_legal setting past) legal in by (is_source sources j.tenant) refl parts.0 (kept_from_legal past sources parts.1)
      where
        kept : List Event
        kept = kept_from setting sources past

        by : (b : Bool) → is_source sources j.tenant ≡ b → was_released setting past j ≡ true → is_legal setting kept ≡ true → is_legal setting (cond b (Done j ∷ kept) kept) ≡ true
        by true is may rest = and_from (was_released setting kept j) (is_legal setting kept) (kept_releases past sources j is ∙ may) rest
        by false is may rest = rest
    kept_from_legal (Tick frame ∷ past) sources legal =
        let parts = and_parts (may_follow setting past (Tick frame)) (is_legal setting past) legal in
        let before = sources_before setting (Tick frame) past sources in
        and_from (may_follow setting (kept_from setting before past) (Tick frame)) (is_legal setting (kept_from setting before past))
        (ap (λ n. eqb (length frame) setting.config.lines && nat_lt n (2 ^ 64 - 1)) (kept_ticks past before) ∙ parts.0)
        (kept_from_legal past before parts.1)

    pub kept_legal : (past : List Event) (t : ℕ) → is_legal setting past ≡ true → is_legal setting (kept_of setting past t) ≡ true
    kept_legal past t legal = kept_from_legal past (t ∷ []) legal

  -- a source at a place is a source at each earlier place
  pub source_of_end : (more past : List Event) (sources : List ℕ) (u : ℕ) → is_source sources u ≡ true → is_source (sources_from setting sources more past) u ≡ true
  source_of_end [] past sources u e = e
  source_of_end (x ∷ more) past sources u e = source_of_end more past (sources_before setting x (more ++ past) sources) u (source_before x (more ++ past) sources u e)

  source_of_later : (later more past : List Event) (sources : List ℕ) (u : ℕ) → is_source (sources_from setting sources later (more ++ past)) u ≡ true
      → is_source (sources_from setting sources (later ++ more) past) u ≡ true
  source_of_later [] more past sources u e = source_of_end more past sources u e
  source_of_later (x ∷ later) more past sources u e =
      source_of_later later more past (sources_before setting x ((later ++ more) ++ past) sources) u
      (subst (λ rest. is_source (sources_from setting (sources_before setting x rest sources) later (more ++ past)) u ≡ true) (sym (append_assoc later more past)) e)

  pub sources_stay : (t u : ℕ) (later more past : List Event) → is_source (sources_of setting t later (more ++ past)) u ≡ true → is_source (sources_of setting t (later ++ more) past) u ≡ true
  sources_stay t u later more past e = source_of_later later more past (t ∷ []) u e
