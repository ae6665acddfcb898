-- A tenant whose sources are all members has the same view of a list as of what the members see of it.
use Rattle.std.proofs.Common.{◌≡◌, ℕ, ◌⊎◌, ⊎_elim, inl, inr, Bool, true, false, cond, ◌==◌, ◌||◌, eqb, ℤ, List, [], ◌∷◌, map, Option, Some, None, is_some, refl, sym, ap, ◌∙◌}
use Rattle.std.specs.List.{cons_option, filter_map, list_any, AllByRecursion}
use Rattle.std.specs.Option.{option_and_then}
use Rattle.std.proofs.lemmas.Bool.{eq-eqb, false_from_ne_true}
use Rattle.giotto_tasks.proofs.cited.ListLemmas.{all_map, map_same}
use Rattle.giotto_tasks.proofs.cited.TestLemmas.{either, or_true}
use Rattle.giotto_tasks.specs.declared.names.Name.{Name}
use Rattle.plant_laws.proofs.SeenFrames.{seen_readings}
use Rattle.plant_laws.specs.Seen.{seen_frame, seen_of}
use Rattle.rig_laws.proofs.cited.TwoWorlds.{same_place}
use Rattle.rig_model.proofs.cited.JobNames.{same_job_is}
use Rattle.rig_model.specs.Answers.{answers_along, answers_of}
use Rattle.rig_model.specs.Base.{Setting}
use Rattle.rig_model.specs.Completions.{has_completion}
use Rattle.rig_model.specs.FirstHalf.{first_half_of, unfinished_tasks}
use Rattle.rig_model.specs.Granted.{granted_along, granted_by, granted_from, granted_to}
use Rattle.rig_model.specs.Jobs.{job_of, same_job}
use Rattle.rig_model.specs.Row.{Row}
use Rattle.rig_model.specs.Sources.{is_source, suppliers_of}
use Rattle.rig_model.specs.Tenancies.{roster_of}
use Rattle.rig_model.specs.Views.{LocalEvent, command, instant, instant_for, row_of, run_of, view_of}
use Rattle.rig_model.specs.declared.events.Event.{Event}
use Rattle.rig_model.specs.declared.events.Event.TheVariants.{Own, Tick, Done}
use Rattle.rig_model.specs.declared.grants.rows.Bind.{Bind}
use Rattle.rig_model.specs.declared.jobs.JobId.{JobId}
use Rattle.rig_model.specs.grants.Grants.{place_in}
use Rattle.tenant_sources.specs.Links.{first_link, is_source_of}

-- a test that holds of a tenant of a list finds one
found : (p : ℕ → Bool) (ts : List ℕ) (u : ℕ) → is_source ts u ≡ true → p u ≡ true → list_any p ts ≡ true
found p [] u among is = absurd (cc)
found p (t ∷ ts) u among is =
    either (eqb t u) (is_source ts u) (list_any p (t ∷ ts) ≡ true) among
    (λ h. ap (λ b. b || list_any p ts) (ap p (same_place t u h) ∙ is))
    (λ h. ap (λ b. p t || b) (found p ts u h is) ∙ or_true (p t))

-- two tests with the same results for the tenants of a list
same_any : (p q : ℕ → Bool) (ts : List ℕ) → ((u : ℕ) → is_source ts u ≡ true → p u ≡ q u) → list_any p ts ≡ list_any q ts
same_any p q [] same = refl
same_any p q (t ∷ ts) same =
    let here = same t (ap (λ b. b || is_source ts t) (eq-eqb t t refl)) in
    let rest = same_any p q ts (λ u h. same u (ap (λ b. eqb t u || b) h ∙ or_true (eqb t u))) in
    ap (λ b. b || list_any p ts) here ∙ ap (λ b. q t || b) rest

-- what holds of all suppliers holds along the binds that name them
along_binds : (roster : List Name) (P : ℕ → Type 0) (binds : List Bind) → ((u : ℕ) → is_source (filter_map (λ (b : Bind). place_in roster b.tenant) binds) u ≡ true → P u)
    → AllByRecursion (λ (b : Bind). (u : ℕ) → place_in roster b.tenant ≡ Some u → P u) binds
along_binds roster P [] each = tt
along_binds roster P (b ∷ binds) each = (here (place_in roster b.tenant) each, along_binds roster P binds (rest (place_in roster b.tenant) each))
  where
    named : List ℕ
    named = filter_map (λ (b : Bind). place_in roster b.tenant) binds

    here : (o : Option ℕ) → ((u : ℕ) → is_source (cons_option o named) u ≡ true → P u) → (u : ℕ) → o ≡ Some u → P u
    here None all u e = absurd (cc)
    here (Some v) all u e = let same : v ≡ u = cc in all u (ap (λ b. b || is_source named u) (eq-eqb v u same))

    rest : (o : Option ℕ) → ((u : ℕ) → is_source (cons_option o named) u ≡ true → P u) → (u : ℕ) → is_source named u ≡ true → P u
    rest None all u h = all u h
    rest (Some v) all u h = all u (ap (λ b. eqb v u || b) h ∙ or_true (eqb v u))

-- a tenant is its own source
pub itself_of : ((setting : Setting) (past : List Event) (t u : ℕ) → is_source_of setting past t u ≡ (t == u || is_some (first_link setting past t u)))
    → (setting : Setting) (past : List Event) (t : ℕ) → is_source_of setting past t t ≡ true
itself_of linked setting past t = linked setting past t t ∙ ap (λ b. b || is_some (first_link setting past t t)) (eq-eqb t t refl)

module _ (setting : Setting) (members : ℕ → Bool) where
  abbrev pub seen : List Event → List Event
  seen past = seen_of setting.config members past

  -- the members' jobs have the same completions
  pub seen_completions : (past : List Event) (j : JobId) → members j.tenant ≡ true → has_completion setting (seen past) j ≡ has_completion setting past j
  seen_completions [] j is = refl
  seen_completions (Own u c ∷ past) j is = by (members u) (seen_completions past j is)
    where
      by : (b : Bool) → has_completion setting (seen past) j ≡ has_completion setting past j
          → has_completion setting (cond b (Own u c ∷ seen past) (seen past)) j ≡ has_completion setting past j
      by true same = same
      by false same = same
  seen_completions (Tick frame ∷ past) j is = seen_completions past j is
  seen_completions (Done i ∷ past) j is = by (members i.tenant) refl (seen_completions past j is)
    where
      by : (b : Bool) → members i.tenant ≡ b → has_completion setting (seen past) j ≡ has_completion setting past j
          → has_completion setting (cond b (Done i ∷ seen past) (seen past)) j ≡ (same_job i j || has_completion setting past j)
      by true at same = ap (λ b. same_job i j || b) same
      by false at same =
          let other : same_job i j ≡ false = false_from_ne_true _ (λ h.
          let bad : true ≡ false = sym is ∙ (ap (λ (k : JobId). members k.tenant) (sym (same_job_is i j h)) ∙ at) in absurd (cc)) in
          same ∙ sym (ap (λ b. b || has_completion setting past j) other)

  -- an instant is the same for a member if its readings are the same, and its row and the rows of its suppliers, which are members, are the same
  module _ (past : List Event) (frame : List ℤ) where
    abbrev left : List Event → ℕ → List Name
    left events u = unfinished_tasks (λ a. has_completion setting events (job_of u a)) (row_of setting events u)

    abbrev half : List Event → ℕ → Row
    half events u = first_half_of (left events u) (row_of setting events u)

    -- a member with the same row
    abbrev IsSame : ℕ → Type 0
    IsSame u = (members u ≡ true) × (row_of setting (seen past) u ≡ row_of setting past u)

    same_left : (u : ℕ) → IsSame u → left (seen past) u ≡ left past u
    same_left u same = λ k. unfinished_tasks (λ a. seen_completions past (job_of u a) same.0 k) (same.1 k)

    same_half : (u : ℕ) → IsSame u → half (seen past) u ≡ half past u
    same_half u same = λ k. first_half_of (same_left u same k) (same.1 k)

    same_granted : (t : ℕ) → IsSame t → ((u : ℕ) → is_source (suppliers_of setting (row_of setting past t)) u ≡ true → IsSame u)
        → granted_to (roster_of setting.config) (row_of setting (seen past)) (half (seen past)) t ≡ granted_to (roster_of setting.config) (row_of setting past) (half past) t
    same_granted t same suppliers =
        ap (λ (row : Row). granted_along row.binds (map (granted_by (roster_of setting.config) (row_of setting (seen past)) (half (seen past)) t) row.binds)) same.1
        ∙ ap (granted_along (row_of setting past t).binds)
        (map_same _ _ (row_of setting past t).binds (all_map _ _ (row_of setting past t).binds each (along_binds (roster_of setting.config) IsSame (row_of setting past t).binds suppliers)))
      where
        by : (b : Bind) (o : Option ℕ) → ((u : ℕ) → o ≡ Some u → IsSame u)
            → option_and_then (granted_from (roster_of setting.config) (row_of setting (seen past)) (half (seen past)) t b.actuator) o
            ≡ option_and_then (granted_from (roster_of setting.config) (row_of setting past) (half past) t b.actuator) o
        by b None is = refl
        by b (Some u) is =
            let supplier = is u refl in
            let row = supplier.1 in
            let half_row = same_half u supplier in
            λ k. granted_from (roster_of setting.config) (λ v. row k) (λ v. half_row k) t b.actuator u

        each : (b : Bind) → ((u : ℕ) → place_in (roster_of setting.config) b.tenant ≡ Some u → IsSame u)
            → granted_by (roster_of setting.config) (row_of setting (seen past)) (half (seen past)) t b ≡ granted_by (roster_of setting.config) (row_of setting past) (half past) t b
        each b is = by b (place_in (roster_of setting.config) b.tenant) is

    same_instant : (t : ℕ) → IsSame t → ((u : ℕ) → is_source (suppliers_of setting (row_of setting past t)) u ≡ true → IsSame u)
        → instant_for setting (row_of setting (seen past)) (has_completion setting (seen past)) (seen_frame setting.config members frame) t
        ≡ instant_for setting (row_of setting past) (has_completion setting past) frame t
    same_instant t same suppliers =
        let readings = seen_readings setting.config members t frame same.0 in
        let unfinished = same_left t same in
        let granted = same_granted t same suppliers in
        λ k. record { readings = readings k; unfinished = unfinished k; granted = granted k }

  -- all sources of the tenant are members
  abbrev pub AreMembers : List Event → ℕ → Type 0
  AreMembers past t = (u : ℕ) → is_source_of setting past t u ≡ true → members u ≡ true

  -- `itself` and `forward` are what sources are, and how they come: a tenant is its own source, and after an instant it has its suppliers' sources
  module _ (itself : (past : List Event) (t : ℕ) → is_source_of setting past t t ≡ true)
      (forward : (past : List Event) (frame : List ℤ) (t u : ℕ)
      → is_source_of setting (Tick frame ∷ past) t u ≡ (is_source_of setting past t u || list_any (λ v. is_source_of setting past v u) (suppliers_of setting (row_of setting past t)))) where
    -- they are those of the same list without its last instant, and of that of a supplier
    pub earlier : (frame : List ℤ) (past : List Event) (t : ℕ) → AreMembers (Tick frame ∷ past) t → AreMembers past t
    earlier frame past t all u is =
        all u (forward past frame t u ∙ ap (λ b. b || list_any (λ v. is_source_of setting past v u) (suppliers_of setting (row_of setting past t))) is)

    of_supplier : (frame : List ℤ) (past : List Event) (t v : ℕ) → is_source (suppliers_of setting (row_of setting past t)) v ≡ true → AreMembers (Tick frame ∷ past) t → AreMembers past v
    of_supplier frame past t v supplies all u is =
        all u (forward past frame t u
        ∙ (ap (λ b. is_source_of setting past t u || b) (found (λ w. is_source_of setting past w u) (suppliers_of setting (row_of setting past t)) v supplies is)
        ∙ or_true (is_source_of setting past t u)))

    -- the same view, and the same sources
    abbrev Same : List Event → ℕ → Type 0
    Same past t = (view_of setting (seen past) t ≡ view_of setting past t) × ((u : ℕ) → is_source_of setting (seen past) t u ≡ is_source_of setting past t u)

    -- in one of the two lists all sources are members
    abbrev InEither : List Event → ℕ → Type 0
    InEither past t = AreMembers past t ⊎ AreMembers (seen past) t

    is_member : (past : List Event) (t : ℕ) → InEither past t → members t ≡ true
    is_member past t all = ⊎_elim (λ a. a t (itself past t)) (λ a. a t (itself (seen past) t)) all

    pub same_seen : (past : List Event) (t : ℕ) → InEither past t → Same past t
    same_seen [] t all = (refl, λ u. refl)
    same_seen (Own v c ∷ past) t all = by (members v) refl (is_member (Own v c ∷ past) t all) all (same_seen past t)
      where
        view : List LocalEvent
        view = view_of setting past t

        by : (b : Bool) → members v ≡ b → members t ≡ true → AreMembers past t ⊎ AreMembers (cond b (Own v c ∷ seen past) (seen past)) t → (InEither past t → Same past t)
            → (view_of setting (cond b (Own v c ∷ seen past) (seen past)) t ≡ cond (eqb v t) (command c ∷ view) view)
            × ((u : ℕ) → is_source_of setting (cond b (Own v c ∷ seen past) (seen past)) t u ≡ is_source_of setting past t u)
        by true at is all before = let same = before all in (ap (λ (events : List LocalEvent). cond (eqb v t) (command c ∷ events) events) same.0, same.1)
        by false at is all before =
            let same = before all in
            let other : eqb v t ≡ false = false_from_ne_true _ (λ h.
            let bad : true ≡ false = sym is ∙ (ap members (sym (same_place v t h)) ∙ at) in absurd (cc)) in
            (same.0 ∙ sym (ap (λ b. cond b (command c ∷ view) view) other), same.1)
    same_seen (Done j ∷ past) t all = by (members j.tenant) all (same_seen past t)
      where
        by : (b : Bool) → AreMembers past t ⊎ AreMembers (cond b (Done j ∷ seen past) (seen past)) t → (InEither past t → Same past t)
            → (view_of setting (cond b (Done j ∷ seen past) (seen past)) t ≡ view_of setting past t)
            × ((u : ℕ) → is_source_of setting (cond b (Done j ∷ seen past) (seen past)) t u ≡ is_source_of setting past t u)
        by true all before = before all
        by false all before = before all
    same_seen (Tick frame ∷ past) t all =
        let before : InEither past t = ⊎_elim (λ a. inl (earlier frame past t a)) (λ a. inr (earlier (seen_frame setting.config members frame) (seen past) t a)) all in
        let own : Same past t = same_seen past t before in
        let row : row_of setting (seen past) t ≡ row_of setting past t = ap (run_of setting t) own.0 in
        let in_seen : (v : ℕ) → is_source (suppliers_of setting (row_of setting past t)) v ≡ true → is_source (suppliers_of setting (row_of setting (seen past) t)) v ≡ true =
        λ v supplies. ap (λ (r : Row). is_source (suppliers_of setting r) v) row ∙ supplies in
        let of_each : (v : ℕ) → is_source (suppliers_of setting (row_of setting past t)) v ≡ true → InEither past v =
        λ v supplies. ⊎_elim (λ a. inl (of_supplier frame past t v supplies a)) (λ a. inr (of_supplier (seen_frame setting.config members frame) (seen past) t v (in_seen v supplies) a)) all in
        let each : (v : ℕ) → is_source (suppliers_of setting (row_of setting past t)) v ≡ true → Same past v = λ v supplies. same_seen past v (of_each v supplies) in
        let instants = same_instant past frame t (is_member past t before, row)
        (λ v supplies. (is_member past v (of_each v supplies), ap (run_of setting v) (each v supplies).0)) in (
          λ k. instant (instants k) ∷ own.0 k,
          λ u.
              forward (seen past) (seen_frame setting.config members frame) t u
              ∙ (ap (λ b. b || list_any (λ v. is_source_of setting (seen past) v u) (suppliers_of setting (row_of setting (seen past) t))) (own.1 u)
              ∙ (ap (λ (r : Row). is_source_of setting past t u || list_any (λ v. is_source_of setting (seen past) v u) (suppliers_of setting r)) row
              ∙ (ap (λ b. is_source_of setting past t u || b)
              (same_any (λ v. is_source_of setting (seen past) v u) (λ v. is_source_of setting past v u) (suppliers_of setting (row_of setting past t)) (λ v supplies. (each v supplies).1 u))
              ∙ sym (forward past frame t u)))),
        )

    -- all sources are members in a second list of which the members see the same
    pub in_second : (past others : List Event) (t : ℕ) → seen past ≡ seen others → AreMembers past t → AreMembers (seen others) t
    in_second past others t same all u is = all u (sym ((same_seen past t (inl all)).1 u) ∙ (ap (λ (events : List Event). is_source_of setting events t u) same ∙ is))

    pub same_views : (past others : List Event) (t : ℕ) → seen past ≡ seen others → AreMembers past t → view_of setting past t ≡ view_of setting others t
    same_views past others t same all =
        sym (same_seen past t (inl all)).0 ∙ (ap (λ (events : List Event). view_of setting events t) same ∙ (same_seen others t (inr (in_second past others t same all))).0)

    pub same_sources : (past others : List Event) (t : ℕ) → seen past ≡ seen others → AreMembers past t → (u : ℕ) → is_source_of setting past t u ≡ is_source_of setting others t u
    same_sources past others t same all u =
        sym ((same_seen past t (inl all)).1 u) ∙ (ap (λ (events : List Event). is_source_of setting events t u) same ∙ (same_seen others t (inr (in_second past others t same all))).1 u)

    pub same_answers : (past others : List Event) (t : ℕ) → seen past ≡ seen others → AreMembers past t → answers_of setting past t ≡ answers_of setting others t
    same_answers past others t same all = ap (answers_along setting t) (same_views past others t same all)
