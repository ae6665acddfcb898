-- The whole host, tenant by tenant, along every legal list of events.
use Rattle.std.proofs.Common.{◌≡◌, ℕ, ◌+◌, ◌<◌, Bool, true, false, cond, not, ◌&&◌, ◌||◌, ℤ, List, [], ◌∷◌, length, map, filter, get_or, Option, Some, None, refl, sym, ap, ◌∙◌, subst, zero-add, arith}
use Rattle.std.specs.List.{list_any, enumerate_from, AllByRecursion}
use Rattle.std.specs.Option.{option_and_then}
use Rattle.std.proofs.lemmas.Bool.Decides.{nat_tests}
use Rattle.std.proofs.lemmas.List.{length-map, get_or-map}
use Rattle.std.proofs.lemmas.List.FromFn.{length-enumerate_from, get_or-enumerate_from}
use Rattle.std.proofs.lemmas.List.Quantifiers.{position-Some}
use Rattle.giotto_tasks.specs.declared.names.Name.{Name}
use Rattle.giotto_tasks.specs.Names.{same_name}
use Rattle.rig_model.specs.declared.events.Event.{Event}
use Rattle.rig_model.specs.declared.events.Event.TheVariants.{Own, Tick, Done}
use Rattle.rig_model.specs.declared.config.TenantConfig.{TenantConfig}
use Rattle.rig_model.specs.declared.grants.rows.Bind.{Bind}
use Rattle.rig_model.specs.declared.jobs.JobId.{JobId}
use Rattle.rig_model.specs.config.Roster.{budgets_at, is_tenant}
use Rattle.rig_model.specs.Jobs.{same_job, job_of, is_active}
use Rattle.rig_model.specs.Row.{ActiveTask, Row, empty_row}
use Rattle.rig_model.specs.FirstHalf.{unfinished_tasks, due_tasks, first_half_of}
use Rattle.rig_model.specs.grants.Grants.{place_in}
use Rattle.rig_model.specs.Readings.{readings_within}
use Rattle.rig_model.specs.Granted.{granted_from, granted_to, granted_along}
use Rattle.rig_model.specs.Base.{IsBase, Setting}
use Rattle.rig_model.specs.Completions.{has_completion}
use Rattle.rig_model.specs.Host.{instant_of, after_event, host_after}
use Rattle.rig_model.specs.HostState.{HostState, is_counted, row_at, is_awaited}
use Rattle.rig_model.specs.Legal.{next_tick, may_follow, is_legal, counts}
use Rattle.rig_model.specs.Tenancies.{roster_of}
use Rattle.rig_model.specs.Views.{row_of}
use Rattle.rig_model.specs.Instants.{after_instant}
use Rattle.rig_laws.proofs.cited.ActiveTasks.{kept_by_instant}
use Rattle.rig_laws.proofs.Alone.{Agrees, all_due, marks_after, known_after, own_event}
use Rattle.rig_laws.proofs.Histories.{unfinished_of, own_instant}
use Rattle.rig_laws.proofs.Histories.{releases, completed_is_early}
use Rattle.rig_model.proofs.cited.JobNames.{same_job_is, own_jobs_active}
use Rattle.std.proofs.lemmas.Bool.{and_from, and_parts, false_from_ne_true}
use Rattle.giotto_tasks.proofs.cited.TestLemmas.{either, or_true}
use Rattle.giotto_tasks.proofs.cited.ListLemmas.{all_map, all_of, all_zip, same_filter}

-- the due tasks of the tenant at place t whose jobs aren't counted
abbrev pub unfinished_at : HostState → ℕ → List Name
unfinished_at host t = unfinished_tasks (λ a. is_counted host (job_of t a)) (row_at host t)

module _ (setting : Setting) where
  -- a completion
  done_event : (host : HostState) (past : List Event) (j : JobId) → Agrees setting host past → Agrees setting (after_event setting host (Done j)) (Done j ∷ past)
  done_event host past j agrees = by (is_awaited host j) refl
    where
      counting : HostState
      counting = record host { counted = j ∷ host.counted }

      -- an active job that isn't awaited is counted, if it is this one
      not_awaited : is_awaited host j ≡ false → (k : JobId) → is_active (row_at host k.tenant) k ≡ true → is_counted host k ≡ has_completion setting past k
          → is_counted host k ≡ (same_job j k || has_completion setting past k)
      not_awaited e k active marked = split (same_job j k) refl
        where
          split : (b : Bool) → same_job j k ≡ b → is_counted host k ≡ (b || has_completion setting past k)
          split false s = marked
          split true s = counted (is_counted host k) refl
            where
              counted : (c : Bool) → is_counted host k ≡ c → c ≡ true
              counted true f = refl
              counted false f =
                  let awaited : is_awaited host k ≡ true = and_from _ _ active (ap not f) in
                  let bad : true ≡ false = sym awaited ∙ (ap (is_awaited host) (sym (same_job_is j k s)) ∙ e) in
                  absurd (cc)

      marked_if : (b : Bool) → is_awaited host j ≡ b → (k : JobId) → is_active (row_at host k.tenant) k ≡ true → is_counted host k ≡ has_completion setting past k
          → is_counted (cond b counting host) k ≡ (same_job j k || has_completion setting past k)
      marked_if true e k active marked = ap (λ b. same_job j k || b) marked
      marked_if false e k active marked = not_awaited e k active marked

      known_if : (b : Bool) (k : JobId) → is_counted (cond b counting host) k ≡ true → (same_job j k || has_completion setting past k) ≡ true
      known_if true k e = either (same_job j k) (is_counted host k) _ e (λ h. ap (λ b. b || has_completion setting past k) h) (λ h. ap (λ b. same_job j k || b) (agrees.known k h) ∙ or_true (same_job j k))
      known_if false k e = ap (λ b. same_job j k || b) (agrees.known k e) ∙ or_true (same_job j k)

      rows_if : (b : Bool) → (cond b counting host).rows ≡ host.rows
      rows_if true = refl
      rows_if false = refl

      row_if : (b : Bool) (t : ℕ) → row_at (cond b counting host) t ≡ row_at host t
      row_if true t = refl
      row_if false t = refl

      by : (b : Bool) → is_awaited host j ≡ b → Agrees setting (cond b counting host) (Done j ∷ past)
      by b e = record {
        long = ap length (rows_if b) ∙ agrees.long;
        rows = λ t lt. row_if b t ∙ agrees.rows t lt;
        marks = λ t lt.
            all_map (λ a. (is_counted host (job_of t a) ≡ has_completion setting past (job_of t a)) × (is_active (row_of setting past t) (job_of t a) ≡ true)) _ (row_of setting past t).active
            (λ a h. marked_if b e (job_of t a) (ap (λ r. is_active r (job_of t a)) (agrees.rows t lt) ∙ h.1) h.0)
            (all_zip _ _ _ (agrees.marks t lt) (own_jobs_active t (row_of setting past t)));
        known = known_if b;
      }

  -- each tenant's instant is that of its view
  same_unfinished : (host : HostState) (past : List Event) → Agrees setting host past → (t : ℕ) → t < length setting.config.tenants
      → unfinished_at host t ≡ unfinished_of setting past t (row_of setting past t)
  same_unfinished host past agrees t lt =
      ap (λ r. map (λ (a : ActiveTask). a.task) (filter (λ a. not (is_counted host (job_of t a))) (due_tasks r))) (agrees.rows t lt)
      ∙ ap (map (λ (a : ActiveTask). a.task))
      (same_filter (λ a. not (is_counted host (job_of t a))) (λ a. not (has_completion setting past (job_of t a))) (due_tasks (row_of setting past t))
      (all_map _ _ _ (λ a h. ap not h) (all_due _ (row_of setting past t) (agrees.marks t lt))))

  same_halves : (host : HostState) (past : List Event) → Agrees setting host past → (t : ℕ) → t < length setting.config.tenants
      → first_half_of (unfinished_at host t) (row_at host t) ≡ first_half_of (unfinished_of setting past t (row_of setting past t)) (row_of setting past t)
  same_halves host past agrees t lt =
      ap (λ u. first_half_of u (row_at host t)) (same_unfinished host past agrees t lt)
      ∙ ap (first_half_of (unfinished_of setting past t (row_of setting past t))) (agrees.rows t lt)

  same_granted : (rows others halves other_halves : ℕ → Row) → ((u : ℕ) → u < length setting.config.tenants → rows u ≡ others u) → ((u : ℕ) → u < length setting.config.tenants → halves u ≡ other_halves u)
      → (t : ℕ) → t < length setting.config.tenants → granted_to (roster_of setting.config) rows halves t ≡ granted_to (roster_of setting.config) others other_halves t
  same_granted rows others halves other_halves same same_half t lt =
      (λ k. granted_along (same t lt k).binds (map (λ b. by b (place_in (roster_of setting.config) b.tenant) refl k) (same t lt k).binds))
    where
      by : (b : Bind) (o : Option ℕ) → place_in (roster_of setting.config) b.tenant ≡ o
          → option_and_then (granted_from (roster_of setting.config) rows halves t b.actuator) o ≡ option_and_then (granted_from (roster_of setting.config) others other_halves t b.actuator) o
      by b None e = refl
      by b (Some u) e =
          let within : u < length setting.config.tenants = omega (arith, (position-Some (λ n. same_name n b.tenant) (roster_of setting.config) u [] e).0, length-map setting.config.tenants (λ (tenant : TenantConfig). tenant.name)) in
          λ k. granted_from (roster_of setting.config) (λ v. same u within k) (λ v. same_half u within k) t b.actuator u

  same_instant : (host : HostState) (past : List Event) (frame : List ℤ) → Agrees setting host past → (t : ℕ) → t < length setting.config.tenants
      → instant_of setting host frame t ≡ own_instant setting past frame t
  same_instant host past frame agrees t lt =
      let unfinished = same_unfinished host past agrees t lt in
      let granted = same_granted (row_at host) (row_of setting past)
      (λ u. first_half_of (unfinished_at host u) (row_at host u)) (λ u. first_half_of (unfinished_of setting past u (row_of setting past u)) (row_of setting past u))
      agrees.rows (same_halves host past agrees) t lt in
      λ k. record { readings = readings_within (budgets_at setting.config t).reads frame; unfinished = unfinished k; granted = granted k }

  -- an instant
  tick_event : IsBase setting.config setting.base → (host : HostState) (past : List Event) (frame : List ℤ) → is_legal setting past ≡ true → Agrees setting host past → Agrees setting (after_event setting host (Tick frame)) (Tick frame ∷ past)
  tick_event base host past frame legal agrees = record {
    long = length-map (enumerate_from 0 host.rows) step ∙ (length-enumerate_from 0 host.rows ∙ agrees.long);
    rows = rows_after;
    marks = λ t lt. marks_after setting later past t rows (row_of setting (Tick frame ∷ past) t) (rows_after t lt) (instant_marks t lt);
    known = known_after setting later past rows agrees.known;
  }
    where
      later : HostState
      later = record host { clock = host.clock + 1 }

      step : ℕ × Row → Row
      step place = after_instant (instant_of setting host frame place.0) place.1

      rows : List Row
      rows = map step (enumerate_from 0 host.rows)

      rows_after : (t : ℕ) → t < length setting.config.tenants → get_or rows t (empty_row (host.clock + 1)) ≡ row_of setting (Tick frame ∷ past) t
      rows_after t lt =
          get_or-map step (enumerate_from 0 host.rows) t (0, empty_row host.clock) (empty_row (host.clock + 1)) (omega (arith, length-enumerate_from 0 host.rows, agrees.long))
          ∙ (ap step (get_or-enumerate_from 0 host.rows t (0, empty_row host.clock) (omega (arith, agrees.long)))
          ∙ (ap (λ n. after_instant (instant_of setting host frame n) (row_at host t)) (zero-add t)
          ∙ (ap (λ i. after_instant i (row_at host t)) (same_instant host past frame agrees t lt)
          ∙ ap (after_instant (own_instant setting past frame t)) (agrees.rows t lt))))

      fresh : (t : ℕ) (a : ActiveTask) → a.release ≡ next_tick setting past → is_counted host (job_of t a) ≡ has_completion setting past (job_of t a)
      fresh t a e =
          let none : has_completion setting past (job_of t a) ≡ true → ⊥ = λ h. let lt = completed_is_early setting base past (job_of t a) legal h in absurd (omega arith) in
          false_from_ne_true _ (λ h. none (agrees.known _ h)) ∙ sym (false_from_ne_true _ none)

      instant_marks : (t : ℕ) → t < length setting.config.tenants → AllByRecursion (λ a. is_counted host (job_of t a) ≡ has_completion setting past (job_of t a)) (row_of setting (Tick frame ∷ past) t).active
      instant_marks t lt =
          (kept_by_instant (λ a. is_counted host (job_of t a) ≡ has_completion setting past (job_of t a)) (next_tick setting past) (fresh t) (own_instant setting past frame t) (row_of setting past t)
          (record { each = agrees.marks t lt; at = (releases setting base past t).at })).0

  base_agrees : IsBase setting.config setting.base → Agrees setting setting.base []
  base_agrees base = record {
    long = base.as_many;
    rows = λ t lt. refl;
    marks = λ t lt. all_of (λ a. refl) (row_at setting.base t).active;
    known = λ j e. e;
  }

  within : (u : ℕ) → is_tenant setting.config u ≡ true → u < length setting.config.tenants
  within u e = grind (arith, nat_tests)

  marked_of_any : (host : HostState) (past : List Event) (j : JobId) (xs : List ActiveTask)
      → AllByRecursion (λ a. is_counted host (job_of j.tenant a) ≡ has_completion setting past (job_of j.tenant a)) xs → list_any (λ (a : ActiveTask). same_job (job_of j.tenant a) j) xs ≡ true
      → is_counted host j ≡ has_completion setting past j
  marked_of_any host past j [] marks e = absurd (cc)
  marked_of_any host past j (a ∷ rest) marks e =
      either (same_job (job_of j.tenant a) j) (list_any (λ (b : ActiveTask). same_job (job_of j.tenant b) j) rest) _ e
      (λ here. let same = same_job_is (job_of j.tenant a) j here in subst (λ k. is_counted host k ≡ has_completion setting past k) same marks.0)
      (marked_of_any host past j rest marks.1)

  -- the clock is the number of the next instant
  pub same_clock : (past : List Event) → (host_after setting past).clock ≡ next_tick setting past
  same_clock [] = refl
  same_clock (Own u c ∷ past) = same_clock past
  same_clock (Tick frame ∷ past) = ap (λ n. n + 1) (same_clock past)
  same_clock (Done j ∷ past) = by (is_awaited host j) (same_clock past)
    where
      host : HostState
      host = host_after setting past

      by : (b : Bool) → host.clock ≡ next_tick setting past → (cond b (record host { counted = j ∷ host.counted }) host).clock ≡ next_tick setting past
      by true e = e
      by false e = e

  -- if the history begins with a base
  module _ (base : IsBase setting.config setting.base) where
    pub agrees_along : (past : List Event) → is_legal setting past ≡ true → Agrees setting (host_after setting past) past
    agrees_along [] legal = base_agrees base
    agrees_along (Own u c ∷ past) legal =
        let parts = and_parts (is_tenant setting.config u) (is_legal setting past) legal in
        own_event setting base (host_after setting past) past u c (within u parts.0) (agrees_along past parts.1)
    agrees_along (Tick frame ∷ past) legal =
        let parts = and_parts (may_follow setting past (Tick frame)) (is_legal setting past) legal in
        tick_event base (host_after setting past) past frame parts.1 (agrees_along past parts.1)
    agrees_along (Done j ∷ past) legal =
        let parts = and_parts (may_follow setting past (Done j)) (is_legal setting past) legal in
        done_event (host_after setting past) past j (agrees_along past parts.1)

    pub same_rows : (past : List Event) (t : ℕ) → is_legal setting past ≡ true → is_tenant setting.config t ≡ true → row_at (host_after setting past) t ≡ row_of setting past t
    same_rows past t legal is = (agrees_along past legal).rows t (within t is)

    pub same_awaits : (past : List Event) (j : JobId) → is_legal setting past ≡ true → is_tenant setting.config j.tenant ≡ true → is_awaited (host_after setting past) j ≡ counts setting past j
    same_awaits past j legal is =
        ap (λ r. is_active r j && not (is_counted host j)) (agrees.rows j.tenant (within j.tenant is)) ∙ by (is_active (row_of setting past j.tenant) j) refl
      where
        host : HostState
        host = host_after setting past

        agrees : Agrees setting host past
        agrees = agrees_along past legal

        by : (b : Bool) → is_active (row_of setting past j.tenant) j ≡ b → (b && not (is_counted host j)) ≡ (b && not (has_completion setting past j))
        by false e = refl
        by true e = ap not (marked_of_any host past j (row_of setting past j.tenant).active (agrees.marks j.tenant (within j.tenant is)) e)
