-- The completion of outstanding jobs, of all tenants and of one.
use Rattle.std.proofs.Common.{◌≡◌, ℕ, zero, suc, ◌+◌, ◌<◌, ◌≢◌, ⊎_elim, Bool, true, false, not, cond, ◌&&◌, ◌||◌, List, [], ◌∷◌, ◌++◌, filter, map, length, reverse, refl, sym, ap, ◌∙◌, subst, arith, zero-add}
use Rattle.std.specs.List.{AllByRecursion, list_any, flat_map, enumerate_from}
use Rattle.std.proofs.Math.ListN.{get_or-eq_default}
use Rattle.std.proofs.lemmas.Bool.{cases_eq, cases_lt}
use Rattle.std.proofs.lemmas.List.Folds.{list_any-append}
use Rattle.std.proofs.lemmas.Map.Views.{any-filter_same}
use Rattle.rig_model.specs.declared.config.TenantConfig.{TenantConfig}
use Rattle.rig_model.specs.declared.jobs.JobId.{JobId}
use Rattle.instant_engine.specs.job_table.Finished.{TableEntry, has_result}
use Rattle.rig_model.specs.Jobs.{same_job, has_job, job_of, is_active}
use Rattle.rig_model.proofs.cited.JobNames.{same_job_is, own_jobs_active}
use Rattle.rig_model.specs.Row.{Row, empty_row}
use Rattle.instant_engine.specs.Tenants.{ArePlaced, tenant_at}
use Rattle.instant_engine.specs.cited.Tenants.{is_active_among}
use Rattle.rig_model.specs.declared.events.Event.{Event}
use Rattle.rig_model.specs.declared.events.Event.TheVariants.{Done}
use Rattle.rig_model.specs.Host.{after_event, host_after}
use Rattle.rig_model.specs.HostState.{HostState, row_at, is_counted, is_awaited}
use Rattle.host_core.specs.HostStanding.{HostStanding, Stands, outstanding_jobs, outstanding_of}
use Rattle.rig_model.specs.Base.{Setting}
use Rattle.giotto_tasks.proofs.cited.ListLemmas.{all_of, all_flat, all_filtered, any_if_all, any_map}
use Rattle.giotto_tasks.proofs.cited.TestLemmas.{absorbed, or_assoc, or_true, or_turned}
use Rattle.host_core.proofs.HostSteps.{active_alike}
use Rattle.host_core.proofs.cited.Outstanding.{jobs_at, all_jobs, awaited_at, code_awaits}
use Rattle.instant_engine.proofs.of_laws.Places.{first_done}

moved : (a b c : Bool) → (a || (b || c)) ≡ ((b || a) || c)
moved a b c = or_assoc a b c ∙ ap (λ x. x || c) (or_turned a b)

-- what is found at one place is found among all
found_at : (test : JobId → Bool) (f : ℕ → List JobId) (n : ℕ) (xs : List TenantConfig) (k : ℕ) → k < length xs → list_any test (f (n + k)) ≡ true
    → list_any test (flat_map (λ (place : ℕ × TenantConfig). f place.0) (enumerate_from n xs)) ≡ true
found_at test f n [] k lt e = absurd (omega arith)
found_at test f n (x ∷ xs) zero lt e =
    let here : n + 0 ≡ n = omega arith in
    list_any-append test (f n) _ ∙ ap (λ b. b || list_any test (flat_map (λ (place : ℕ × TenantConfig). f place.0) (enumerate_from (n + 1) xs))) (subst (λ k. list_any test (f k) ≡ true) here e)
found_at test f n (x ∷ xs) (suc k) lt e =
    let there : n + suc k ≡ n + 1 + k = omega arith in
    list_any-append test (f n) _ ∙ ap (λ b. list_any test (f n) || b) (found_at test f (n + 1) xs k (omega arith) (subst (λ k. list_any test (f k) ≡ true) there e)) ∙ or_true (list_any test (f n))

-- what is found at no place isn't found among all
none_anywhere : (test : JobId → Bool) (f : ℕ → List JobId) (n : ℕ) (xs : List TenantConfig) → ((k : ℕ) → list_any test (f k) ≡ false)
    → list_any test (flat_map (λ (place : ℕ × TenantConfig). f place.0) (enumerate_from n xs)) ≡ false
none_anywhere test f n [] none = refl
none_anywhere test f n (x ∷ xs) none =
    list_any-append test (f n) _ ∙ ap (λ b. b || list_any test (flat_map (λ (place : ℕ × TenantConfig). f place.0) (enumerate_from (n + 1) xs))) (none n) ∙ none_anywhere test f (n + 1) xs none

-- whether a job is counted or active, said in two ways
one_more : (counted active : Bool) → (counted || active) ≡ ((not counted && active) || counted)
one_more true active = refl
one_more false true = refl
one_more false false = refl

module _ (setting : Setting) where
  -- the state after the completions of these jobs, the first of them first
  abbrev pub after_done : List JobId → HostState → HostState
  after_done [] state = state
  after_done (j ∷ js) state = after_done js (after_event setting state (Done j))

  pub host_after_done : (js : List JobId) (past : List Event) → host_after setting (reverse (map Done js) ++ past) ≡ after_done js (host_after setting past)
  host_after_done [] past = refl
  host_after_done (j ∷ js) past = ap (host_after setting) (first_done j js past) ∙ host_after_done js (Done j ∷ past)

  -- the jobs are counted, and nothing else changes
  record AreCounted (js : List JobId) (state : HostState) : Type 0 where
    pub counted : List JobId
    pub is : after_done js state ≡ record state { counted = counted }
    pub same : (k : JobId) → list_any (λ i. same_job i k) counted ≡ (list_any (λ i. same_job i k) js || is_counted state k)

  are_counted : (js : List JobId) (state : HostState) → AllByRecursion (λ j. is_active (row_at state j.tenant) j ≡ true) js → AreCounted js state
  are_counted [] state active = record { counted = state.counted; is = refl; same = λ k. refl }
  are_counted (j ∷ js) state active = by (is_counted state j) refl (are_counted js state active.1) (are_counted js (record state { counted = j ∷ state.counted }) active.1)
    where
      next : Bool → HostState
      next b = cond b (record state { counted = j ∷ state.counted }) state

      awaited : (b : Bool) → is_counted state j ≡ b → is_awaited state j ≡ not b
      awaited b e = ap (λ a. a && not (is_counted state j)) active.0 ∙ ap not e

      by : (b : Bool) → is_counted state j ≡ b → AreCounted js state → AreCounted js (next true) → AreCounted (j ∷ js) state
      by true e rest more = record {
        counted = rest.counted;
        is = ap (λ b. after_done js (next b)) (awaited true e) ∙ rest.is;
        same = λ k.
            rest.same k
            ∙ ap (λ b. list_any (λ i. same_job i k) js || b) (sym (absorbed (same_job j k) (is_counted state k) (λ h. subst (λ i. is_counted state i ≡ true) (same_job_is j k h) e)))
            ∙ moved (list_any (λ i. same_job i k) js) (same_job j k) (is_counted state k);
      }
      by false e rest more = record {
        counted = more.counted;
        is = ap (λ b. after_done js (next b)) (awaited false e) ∙ more.is;
        same = λ k. more.same k ∙ moved (list_any (λ i. same_job i k) js) (same_job j k) (is_counted state k);
      }

  all_active : (state : HostState) → AllByRecursion (λ j. is_active (row_at state j.tenant) j ≡ true) (all_jobs setting state)
  all_active state =
      all_flat _ (λ (place : ℕ × TenantConfig). jobs_at setting state place.0) (enumerate_from 0 setting.config.tenants)
      (λ place. all_filtered _ (job_of place.0) (λ j. not (is_counted state j)) (row_at state place.0).active (own_jobs_active place.0 (row_at state place.0)))

  -- no job of another tenant is among a tenant's jobs
  none_of_others : (state : HostState) (t : ℕ) (j : JobId) → t ≢ j.tenant → list_any (λ i. same_job i j) (jobs_at setting state t) ≡ false
  none_of_others state t j differ = by (list_any (λ i. same_job i j) (jobs_at setting state t)) refl
    where
      by : (b : Bool) → list_any (λ i. same_job i j) (jobs_at setting state t) ≡ b → b ≡ false
      by true e = absurd
          (any_if_all (λ i. same_job i j) ⊥ (jobs_at setting state t)
          (all_filtered _ (job_of t) (λ i. not (is_counted state i)) (row_at state t).active
          (all_of (λ b same. differ (ap (λ (i : JobId). i.tenant) (same_job_is (job_of t b) j same))) (row_at state t).active)) e)
      by false e = refl

  -- which jobs are outstanding at one place
  among_at : (state : HostState) (t : ℕ) (j : JobId) → list_any (λ i. same_job i j) (jobs_at setting state t) ≡ (not (is_counted state j) && has_job t (row_at state t).active j)
  among_at state t j =
      any-filter_same (λ i. same_job i j) (λ i. not (is_counted state i)) (not (is_counted state j)) (λ i e. ap (λ k. not (is_counted state k)) (same_job_is i j e)) (map (job_of t) (row_at state t).active)
      ∙ ap (λ b. not (is_counted state j) && b) (any_map (λ i. same_job i j) (job_of t) (row_at state t).active)

  -- which jobs are outstanding at all places
  among_all : (state : HostState) (j : JobId) → length state.rows ≡ length setting.config.tenants
      → list_any (λ i. same_job i j) (all_jobs setting state) ≡ (not (is_counted state j) && is_active (row_at state j.tenant) j)
  among_all state j all_rows = by (list_any test (jobs_at setting state j.tenant)) refl
    where
      test : JobId → Bool
      test i = same_job i j

      elsewhere : (k : ℕ) → k ≢ j.tenant → list_any test (jobs_at setting state k) ≡ false
      elsewhere k differ = none_of_others state k j differ

      by : (b : Bool) → list_any test (jobs_at setting state j.tenant) ≡ b → list_any test (all_jobs setting state) ≡ (not (is_counted state j) && is_active (row_at state j.tenant) j)
      by true e = ⊎_elim
          (λ lt. found_at test (jobs_at setting state) 0 setting.config.tenants j.tenant lt (subst (λ k. list_any test (jobs_at setting state k) ≡ true) (sym (zero-add j.tenant)) e)
          ∙ sym (sym (among_at state j.tenant j) ∙ e))
          (λ le.
          let none : row_at state j.tenant ≡ empty_row state.clock = get_or-eq_default state.rows (empty_row state.clock) (omega (arith, all_rows, le)) in
          let bad : true ≡ false = sym e ∙ ap (λ (r : Row). list_any test (filter (λ i. not (is_counted state i)) (map (job_of j.tenant) r.active))) none in
          absurd (cc))
          (cases_lt j.tenant (length setting.config.tenants))
      by false e =
          none_anywhere test (jobs_at setting state) 0 setting.config.tenants
          (λ k. ⊎_elim (λ (same : k ≡ j.tenant). ap (λ n. list_any test (jobs_at setting state n)) same ∙ e) (elsewhere k) (cases_eq k j.tenant))
          ∙ sym (sym (among_at state j.tenant j) ∙ e)

  module _ (host : HostStanding) (state : HostState) (placed : ArePlaced host.tenants) (stands : Stands setting host state) where
    -- the host after the completions of these jobs, by the results that came
    stands_done : (js : List JobId) → AllByRecursion (λ j. is_active (row_at state j.tenant) j ≡ true) js → (entries : List TableEntry)
        → ((j : JobId) → has_result entries j ≡ (list_any (λ i. same_job i j) js || is_counted state j))
        → Stands setting (record host { entries = entries }) (after_done js state)
    stands_done js active entries results =
        let done = are_counted js state active in
        subst (Stands setting (record host { entries = entries })) (sym done.is) (record {
          same_config = stands.same_config;
          same_clock = stands.same_clock;
          as_many = stands.as_many;
          all_rows = stands.all_rows;
          placed = stands.placed;
          each = stands.each;
          counts = stands.counts;
          results = λ j. results j ∙ sym (done.same j);
        })

    pub stands_completed : (entries : List TableEntry) → ((j : JobId) → has_result entries j ≡ (has_result host.entries j || is_active_among host.tenants j))
        → Stands setting (record host { entries = entries }) (after_done (outstanding_jobs host) state)
    stands_completed entries results =
        subst (λ js. Stands setting (record host { entries = entries }) (after_done js state)) (sym (code_awaits setting host state stands placed))
        (stands_done (all_jobs setting state) (all_active state) entries
        (λ j.
        results j
        ∙ ap (λ b. b || is_active_among host.tenants j) (stands.results j)
        ∙ ap (λ b. is_counted state j || b) (sym (active_alike (length setting.config.tenants) host.tenants state.rows state.clock stands.as_many stands.all_rows placed stands.each j))
        ∙ one_more (is_counted state j) (is_active (row_at state j.tenant) j)
        ∙ ap (λ b. b || is_counted state j) (sym (among_all state j stands.all_rows))))

    -- only one tenant's jobs
    pub stands_completed_at : (t : ℕ) → t < length setting.config.tenants → (entries : List TableEntry)
        → ((j : JobId) → has_result entries j ≡ (has_result host.entries j || has_job (tenant_at host.tenants t).tenancy.owner.place (tenant_at host.tenants t).row.active j))
        → Stands setting (record host { entries = entries }) (after_done (outstanding_of host t) state)
    stands_completed_at t lt entries results =
        let place : (tenant_at host.tenants t).tenancy.owner.place ≡ t = placed t (omega (arith, lt, stands.as_many)) in
        subst (λ js. Stands setting (record host { entries = entries }) (after_done js state))
        (sym (awaited_at setting (tenant_at host.tenants t) host.entries t (row_at state t) (is_counted state) (stands.each t lt) place stands.results))
        (stands_done (jobs_at setting state t)
        (all_filtered _ (job_of t) (λ j. not (is_counted state j)) (row_at state t).active (own_jobs_active t (row_at state t))) entries
        (λ j.
        results j
        ∙ ap (λ b. b || has_job (tenant_at host.tenants t).tenancy.owner.place (tenant_at host.tenants t).row.active j) (stands.results j)
        ∙ ap (λ k. is_counted state j || has_job k (tenant_at host.tenants t).row.active j) place
        ∙ ap (λ (r : Row). is_counted state j || has_job t r.active j) (stands.each t lt)
        ∙ one_more (is_counted state j) (has_job t (row_at state t).active j)
        ∙ ap (λ b. b || is_counted state j) (sym (among_at state t j))))
