-- What the host's code represents after each event.
use Rattle.std.proofs.Common.{◌≡◌, ℕ, ◌+◌, ◌<◌, ◌≤◌, ◌≢◌, ⊎_elim, Bool, true, false, cond, not, ◌&&◌, ◌||◌, ℤ, List, ◌∷◌, length, map, filter, get_or, set, Option, Some, None, refl, sym, ap, ◌∙◌, subst, length-set, zero-add, arith}
use Rattle.std.specs.Prelude.{is_some, slice_get, Result, Ok, Err, IfOk}
use Rattle.std.specs.List.{find, enumerate_from, All}
use Rattle.std.specs.Option.{option_map, option_and_then}
use Rattle.std.proofs.Math.ListN.{get_or-eq_default}
use Rattle.std.proofs.lemmas.Bool.{cases_eq, cases_lt}
use Rattle.std.proofs.lemmas.List.{length-map, get_or-map, get_or_default, get_or-set_same, get_or-set_other}
use Rattle.std.proofs.lemmas.List.FromFn.{length-enumerate_from, get_or-enumerate_from}
use Rattle.std.proofs.lemmas.Map.Views.{any-filter_same}
use Rattle.std.proofs.lemmas.Option.{slice_get-get_or}
use Rattle.rig_model.specs.text.Program.{GiottoProgram}
use Rattle.rig_model.specs.config.Roster.{Rig}
use Rattle.rig_model.specs.declared.lines.commands.Command.{Command}
use Rattle.rig_model.specs.declared.lines.replies.Refusal.TheVariants.{Memory}
use Rattle.rig_model.specs.declared.lines.replies.Reply.{Reply}
use Rattle.rig_model.specs.declared.lines.replies.Reply.TheVariants.{Refused}
use Rattle.rig_model.specs.declared.jobs.JobId.{JobId}
use Rattle.instant_engine.specs.job_table.Finished.{TableEntry, entry_in, has_result, result_in}
use Rattle.instant_engine.specs.job_table.Jobs.{JobValue}
use Rattle.rig_model.specs.Jobs.{same_job, has_job, job_of, is_active}
use Rattle.rig_model.proofs.cited.JobNames.{same_job_is}
use Rattle.rig_model.specs.Commands.{commanded}
use Rattle.rig_model.specs.Instants.{after_instant, local_instant}
use Rattle.instant_engine.specs.state.Jobs.{job_in}
use Rattle.rig_model.specs.Row.{ActiveTask, Row, empty_row}
use Rattle.instant_engine.specs.state.Standing.{Standing, at_rest, no_tenant, IsKnown, StandsFor, awaited_job, outstanding_tasks, released_job}
use Rattle.instant_engine.specs.state.cited.Standing.{IsOutcome}
use Rattle.instant_engine.specs.cited.Instants.{AreInstants, instant_by}
use Rattle.instant_engine.specs.Tenants.{ArePlaced, tenant_at}
use Rattle.instant_engine.specs.cited.Tenants.{is_active_among}
use Rattle.rig_model.specs.declared.events.Event.TheVariants.{Own, Tick, Done}
use Rattle.rig_model.specs.Host.{instant_of, with_rows, after_event}
use Rattle.rig_model.specs.HostState.{HostState, is_counted, row_at, is_awaited}
use Rattle.host_core.specs.HostStanding.{HostStanding, Stands, awaited_in}
use Rattle.rig_model.specs.Tenancies.{Tenancy, tenancy_at}
use Rattle.host_core.specs.inner.HostStanding.{HaveTenancies, IsAt}
use Rattle.rig_model.specs.Base.{Setting}
use Rattle.rig_model.specs.Views.{after_command}
use Rattle.host_core.proofs.AtRest.{stands_inside}
use Rattle.giotto_tasks.proofs.cited.TestLemmas.{and_false, and_true}
use Rattle.giotto_tasks.proofs.cited.ListLemmas.{find_is_any, find_passes, is_some-option_map}

pub same_count : (s : Standing) (row : Row) → StandsFor s row → row.next_tick ≡ s.row.next_tick
same_count s row stands = sym (ap (λ (r : Row). r.next_tick) stands)

-- one tenant in another's place
pub placed_set : (tenants : List Standing) (u : ℕ) (s : Standing) → s.tenancy.owner.place ≡ u → ArePlaced tenants → ArePlaced (set tenants u s)
placed_set tenants u s own placed t lt = ⊎_elim
    (λ (same : u ≡ t).
    ap (λ (x : Standing). x.tenancy.owner.place) (ap (λ k. get_or (set tenants u s) k no_tenant) (sym same) ∙ get_or-set_same tenants u s no_tenant (omega (arith, lt, same, length-set tenants u s)))
    ∙ own ∙ same)
    (λ (differ : u ≢ t). ap (λ (x : Standing). x.tenancy.owner.place) (get_or-set_other tenants u t s no_tenant (λ e. differ (sym e))) ∙ placed t (omega (arith, lt, length-set tenants u s)))
    (cases_eq u t)

pub tenancies_set : (config : Rig) (tenants : List Standing) (u : ℕ) (s : Standing) → s.tenancy ≡ tenancy_at config u → HaveTenancies config tenants → HaveTenancies config (set tenants u s)
tenancies_set config tenants u s own tenancies t lt = ⊎_elim
    (λ (same : u ≡ t).
    ap (λ (x : Standing). x.tenancy) (ap (λ k. get_or (set tenants u s) k no_tenant) (sym same) ∙ get_or-set_same tenants u s no_tenant (omega (arith, lt, same, length-set tenants u s)))
    ∙ own ∙ ap (tenancy_at config) same)
    (λ (differ : u ≢ t). ap (λ (x : Standing). x.tenancy) (get_or-set_other tenants u t s no_tenant (λ e. differ (sym e))) ∙ tenancies t (omega (arith, lt, length-set tenants u s)))
    (cases_eq u t)

-- a job is active in the code's tenants exactly if it is in the rows that they represent
pub active_alike : (n : ℕ) (tenants : List Standing) (rows : List Row) (clock : ℕ) → length tenants ≡ n → length rows ≡ n → ArePlaced tenants
    → ((t : ℕ) → t < n → StandsFor (tenant_at tenants t) (get_or rows t (empty_row clock)))
    → (j : JobId) → is_active (get_or rows j.tenant (empty_row clock)) j ≡ is_active_among tenants j
active_alike n tenants rows clock as_many all_rows placed each j = ⊎_elim here past (cases_lt j.tenant n)
  where
    here : j.tenant < n → is_active (get_or rows j.tenant (empty_row clock)) j ≡ is_active_among tenants j
    here lt = sym
        (ap (λ k. has_job k (tenant_at tenants j.tenant).row.active j) (placed j.tenant (omega (arith, lt, as_many)))
        ∙ ap (λ (r : Row). has_job j.tenant r.active j) (each j.tenant lt))

    past : n ≤ j.tenant → is_active (get_or rows j.tenant (empty_row clock)) j ≡ is_active_among tenants j
    past le =
        ap (λ (r : Row). is_active r j) (get_or-eq_default rows (empty_row clock) (omega (arith, le, all_rows)))
        ∙ sym (ap (λ (s : Standing). has_job s.tenancy.owner.place s.row.active j) (get_or-eq_default tenants no_tenant (omega (arith, le, as_many))))

-- which jobs are still counted after a change of rows
pub counted_still : (state : HostState) (rows : List Row) (j : JobId) → is_counted (with_rows state rows) j ≡ (is_active (get_or rows j.tenant (empty_row state.clock)) j && is_counted state j)
counted_still state rows j =
    any-filter_same (λ i. same_job i j) (λ i. is_active (get_or rows i.tenant (empty_row state.clock)) i) (is_active (get_or rows j.tenant (empty_row state.clock)) j)
    (λ i e. ap (λ (k : JobId). is_active (get_or rows k.tenant (empty_row state.clock)) k) (same_job_is i j e)) state.counted

-- a table that has exactly the results of the jobs that are still active
abbrev pub AreResultsStill : List Standing → List TableEntry → List TableEntry → Type 0
AreResultsStill tenants before after = (j : JobId) → has_result after j ≡ (is_active_among tenants j && has_result before j)

module _ (setting : Setting) where
  -- the host after a change of rows, if each tenant represents its new row, whose next tick is the clock's
  pub stands_with_rows : (host : HostStanding) (state : HostState) (tenants : List Standing) (entries : List TableEntry) (rows : List Row) (clock : ℕ)
      → Stands setting host state
      → length tenants ≡ length setting.config.tenants → length rows ≡ length setting.config.tenants → ArePlaced tenants
      → ((t : ℕ) → t < length setting.config.tenants → StandsFor (tenant_at tenants t) (get_or rows t (empty_row clock)))
      → ((t : ℕ) → t < length setting.config.tenants → (get_or rows t (empty_row clock)).next_tick ≡ clock)
      → AreResultsStill tenants host.entries entries
      → Stands setting (record { config = host.config; tenants = tenants; entries = entries; clock = clock }) (with_rows (record state { clock = clock }) rows)
  stands_with_rows host state tenants entries rows clock stands as_many all_rows placed each counts still = record {
    same_config = stands.same_config;
    same_clock = refl;
    as_many = as_many;
    all_rows = all_rows;
    placed = placed;
    each = each;
    counts = counts;
    results = λ j.
        still j
        ∙ ap (λ b. b && has_result host.entries j) (sym (active_alike (length setting.config.tenants) tenants rows clock as_many all_rows placed each j))
        ∙ ap (λ b. is_active (get_or rows j.tenant (empty_row clock)) j && b) (stands.results j)
        ∙ sym (counted_still (record state { clock = clock }) rows j);
  }

  -- a command
  module _ (host : HostStanding) (state : HostState) (u : ℕ) (c : Command) (s : Standing) (entries : List TableEntry) (stands : Stands setting host state) where
    abbrev new : Row
    new = (after_command setting u c (row_at state u)).row

    abbrev tenants : List Standing
    tenants = set host.tenants u s

    abbrev rows : List Row
    rows = set state.rows u new

    module _ (within : u < length setting.config.tenants) (own : StandsFor s new) (count : s.row.next_tick ≡ host.clock) (place : s.tenancy.owner.place ≡ u) (placed : ArePlaced host.tenants)
        (still : AreResultsStill tenants host.entries entries) where
      here_tenant : (t : ℕ) → u ≡ t → tenant_at tenants t ≡ s
      here_tenant t e = ap (λ k. get_or tenants k no_tenant) (sym e) ∙ get_or-set_same host.tenants u s no_tenant (omega (arith, within, stands.as_many))

      here_row : (t : ℕ) → u ≡ t → get_or rows t (empty_row state.clock) ≡ new
      here_row t e = ap (λ k. get_or rows k (empty_row state.clock)) (sym e) ∙ get_or-set_same state.rows u new (empty_row state.clock) (omega (arith, within, stands.all_rows))

      there_tenant : (t : ℕ) → u ≢ t → tenant_at tenants t ≡ tenant_at host.tenants t
      there_tenant t differ = get_or-set_other host.tenants u t s no_tenant (λ e. differ (sym e))

      there_row : (t : ℕ) → u ≢ t → get_or rows t (empty_row state.clock) ≡ row_at state t
      there_row t differ = get_or-set_other state.rows u t new (empty_row state.clock) (λ e. differ (sym e))

      command_each : (t : ℕ) → t < length setting.config.tenants → StandsFor (tenant_at tenants t) (get_or rows t (empty_row state.clock))
      command_each t lt = ⊎_elim
          (λ (same : u ≡ t). subst (λ r. StandsFor (tenant_at tenants t) r) (sym (here_row t same)) (subst (λ x. StandsFor x new) (sym (here_tenant t same)) own))
          (λ (differ : u ≢ t).
          subst (λ r. StandsFor (tenant_at tenants t) r) (sym (there_row t differ)) (subst (λ x. StandsFor x (row_at state t)) (sym (there_tenant t differ)) (stands.each t lt)))
          (cases_eq u t)

      command_counts : (t : ℕ) → t < length setting.config.tenants → (get_or rows t (empty_row state.clock)).next_tick ≡ state.clock
      command_counts t lt = ⊎_elim
          (λ (same : u ≡ t). ap (λ (r : Row). r.next_tick) (here_row t same) ∙ (same_count s new own ∙ (count ∙ stands.same_clock)))
          (λ (differ : u ≢ t). ap (λ (r : Row). r.next_tick) (there_row t differ) ∙ stands.counts t lt)
          (cases_eq u t)

      pub stands_after_command : Stands setting (record host { tenants = set host.tenants u s; entries = entries }) (after_event setting state (Own u c))
      stands_after_command =
          subst (λ n. Stands setting (record host { tenants = set host.tenants u s; entries = entries; clock = n }) (after_event setting state (Own u c))) (sym stands.same_clock)
          (stands_with_rows host state tenants entries rows state.clock stands (length-set host.tenants u s ∙ stands.as_many) (length-set state.rows u new ∙ stands.all_rows)
          (placed_set host.tenants u s place placed) command_each command_counts still)

  -- an instant
  row_behind : (state : HostState) (frame : List ℤ) (t : ℕ) → t < length state.rows
      → get_or (map (λ (place : ℕ × Row). after_instant (instant_of setting state frame place.0) place.1) (enumerate_from 0 state.rows)) t (empty_row (state.clock + 1))
      ≡ after_instant (instant_of setting state frame t) (row_at state t)
  row_behind state frame t lt =
      let step : ℕ × Row → Row = λ place. after_instant (instant_of setting state frame place.0) place.1 in
      get_or-map step (enumerate_from 0 state.rows) t (0, empty_row state.clock) (empty_row (state.clock + 1)) (omega (arith, lt, length-enumerate_from 0 state.rows))
      ∙ (ap step (get_or-enumerate_from 0 state.rows t (0, empty_row state.clock) lt)
      ∙ ap (λ n. after_instant (instant_of setting state frame n) (row_at state t)) (zero-add t))

  module _ (host : HostStanding) (state : HostState) (frame : List ℤ) (after : List Standing) (entries : List TableEntry)
      (stands : Stands setting host state)
      (placed : ArePlaced host.tenants)
      (tenancies : HaveTenancies host.config host.tenants)
      (instants : AreInstants frame host.entries host.tenants after)
      (exact : (j : JobId) → entry_in entries j ≡ cond (is_active_among after j) (Some (record { id = j; result = result_in host.entries j })) None) where
    abbrev rows_behind : List Row
    rows_behind = map (λ (place : ℕ × Row). after_instant (instant_of setting state frame place.0) place.1) (enumerate_from 0 state.rows)

    results_still : AreResultsStill after host.entries entries
    results_still j = ap (λ (o : Option TableEntry). is_some (option_and_then (λ (e : TableEntry). e.result) o)) (exact j) ∙ by (is_active_among after j)
      where
        by : (b : Bool) → is_some (option_and_then (λ (e : TableEntry). e.result) (cond b (Some (record { id = j; result = result_in host.entries j })) None)) ≡ (b && has_result host.entries j)
        by true = refl
        by false = refl

    placed_after : ArePlaced after
    placed_after t lt =
        let within : t < length host.tenants = omega (arith, lt, instants.moved.as_many) in
        ap (λ (y : Tenancy). y.owner.place) (instants.moved.each t within).tenancy ∙ placed t within

    module _ (t : ℕ) (lt : t < length setting.config.tenants) where
      within : t < length host.tenants
      within = omega (arith, lt, stands.as_many)

      abbrev row : Row
      row = row_at state t

      its_tenancy : (u : ℕ) → u < length host.tenants → (tenant_at host.tenants u).tenancy ≡ tenancy_at setting.config u
      its_tenancy u below = tenancies u below ∙ ap (λ (k : Rig). tenancy_at k u) stands.same_config

      same_instant : instant_by host.tenants frame host.entries (row_at state) t ≡ instant_of setting state frame t
      same_instant =
          let first = its_tenancy 0 (omega (arith, within)) in
          let own = its_tenancy t within in
          λ k. local_instant (first k).owner.roster (own k).budgets.reads (row_at state) (λ j. stands.results j k) frame t

      tick_each : StandsFor (tenant_at after t) (get_or rows_behind t (empty_row (state.clock + 1)))
      tick_each =
          subst (λ r. StandsFor (tenant_at after t) r)
          (ap (λ i. after_instant i row) same_instant ∙ sym (row_behind state frame t (omega (arith, lt, stands.all_rows))))
          (instants.step (row_at state) (λ u below. stands.each u (omega (arith, below, stands.as_many))) t within)

      tick_counts : (get_or rows_behind t (empty_row (state.clock + 1))).next_tick ≡ state.clock + 1
      tick_counts =
          same_count (tenant_at after t) (get_or rows_behind t (empty_row (state.clock + 1))) tick_each
          ∙ ((instants.moved.each t within).next_tick ∙ ap (λ n. n + 1) (sym (same_count (tenant_at host.tenants t) row (stands.each t lt)) ∙ stands.counts t lt))

    pub stands_after_tick : Stands setting (record { config = host.config; tenants = after; entries = entries; clock = host.clock + 1 }) (after_event setting state (Tick frame))
    stands_after_tick =
        subst (λ n. Stands setting (record { config = host.config; tenants = after; entries = entries; clock = n }) (after_event setting state (Tick frame))) (ap (λ n. n + 1) (sym stands.same_clock))
        (stands_with_rows host state after entries rows_behind (state.clock + 1) stands (instants.moved.as_many ∙ stands.as_many)
        (length-map (enumerate_from 0 state.rows) _ ∙ (length-enumerate_from 0 state.rows ∙ stands.all_rows)) placed_after tick_each tick_counts results_still)

  -- a tenant's own step, from the row that the state has at its place
  pub own_outcome : (host : HostStanding) (state : HostState) (t : ℕ) (c : Command) (before after : Standing) (reply : Reply)
      → Stands setting host state → t < length host.config.tenants → HaveTenancies host.config host.tenants → before ≡ get_or host.tenants t before
      → ((row : Row) → StandsFor before row → reply ≢ Refused Memory → IsOutcome (commanded before.tenancy c row) reply after)
      → reply ≢ Refused Memory → IsOutcome (after_command setting t c (row_at state t)) reply after
  own_outcome host state t c before after reply stands within tenancies here step given =
      let lt : t < length setting.config.tenants = subst (λ (k : Rig). t < length k.tenants) stands.same_config within in
      let same : before ≡ tenant_at host.tenants t = here ∙ get_or_default host.tenants t before no_tenant (omega (arith, lt, stands.as_many)) in
      let its : before.tenancy ≡ tenancy_at setting.config t =
      ap (λ (s : Standing). s.tenancy) same ∙ tenancies t (omega (arith, lt, stands.as_many)) ∙ ap (λ (k : Rig). tenancy_at k t) stands.same_config in
      subst (λ b. IsOutcome (commanded b c (row_at state t)) reply after) its
      (step (row_at state t) (subst (λ s. StandsFor s (row_at state t)) (sym same) (stands.each t lt)) given)

-- the outstanding tasks of a tenant
pub outstanding_are : (s : Standing) (entries : List TableEntry) (t : ℕ) (row : Row) (counted : JobId → Bool) → StandsFor s row → s.tenancy.owner.place ≡ t → ((j : JobId) → has_result entries j ≡ counted j)
    → outstanding_tasks s entries ≡ filter (λ a. not (counted (job_of t a))) row.active
outstanding_are s entries t row counted stands place results = λ k. filter (λ a. not (results (job_of (place k) a) k)) (stands k).active

-- a job of a name is released exactly if an active task has a job of this name
pub released_is : (s : Standing) (j : JobId) → IsKnown s.tenancy s.row → is_some (released_job s j) ≡ has_job s.tenancy.owner.place s.row.active j
released_is s j known = program s.row.program refl
  where
    program : (o : Option GiottoProgram) → s.row.program ≡ o → is_some (released_job s j) ≡ has_job s.tenancy.owner.place s.row.active j
    program None e =
        ap (λ o. is_some (option_and_then (λ p. option_map (job_in p s.tenancy.owner.place) (find (λ a. same_job (job_of s.tenancy.owner.place a) j) s.row.active)) o)) e
        ∙ sym (ap (λ xs. has_job s.tenancy.owner.place xs j) (known.tasks e))
    program (Some p) e =
        ap (λ o. is_some (option_and_then (λ p. option_map (job_in p s.tenancy.owner.place) (find (λ a. same_job (job_of s.tenancy.owner.place a) j) s.row.active)) o)) e
        ∙ (is_some-option_map (job_in p s.tenancy.owner.place) (find (λ a. same_job (job_of s.tenancy.owner.place a) j) s.row.active) ∙ find_is_any (λ a. same_job (job_of s.tenancy.owner.place a) j) s.row.active)

pub awaited_is : (s : Standing) (entries : List TableEntry) (j : JobId) → IsKnown s.tenancy s.row → is_some (awaited_job s entries j) ≡ (has_job s.tenancy.owner.place s.row.active j && not (has_result entries j))
awaited_is s entries j known = by (has_result entries j)
  where
    by : (b : Bool) → is_some (cond b None (released_job s j)) ≡ (has_job s.tenancy.owner.place s.row.active j && not b)
    by true = sym (and_false (has_job s.tenancy.owner.place s.row.active j))
    by false = released_is s j known ∙ sym (and_true (has_job s.tenancy.owner.place s.row.active j))

module _ (setting : Setting) where
  -- the host awaits a job exactly if the definitions do
  pub awaits_here : (host : HostStanding) (state : HostState) (j : JobId) → j.tenant < length setting.config.tenants → Stands setting host state → ArePlaced host.tenants
      → IsKnown (tenant_at host.tenants j.tenant).tenancy (tenant_at host.tenants j.tenant).row → is_awaited state j ≡ is_some (awaited_in host j)
  awaits_here host state j lt stands placed known =
      ap (λ b. b && not (is_counted state j)) (active_alike (length setting.config.tenants) host.tenants state.rows state.clock stands.as_many stands.all_rows placed stands.each j)
      ∙ ap (λ b. is_active_among host.tenants j && not b) (sym (stands.results j))
      ∙ sym (awaited_is (tenant_at host.tenants j.tenant) host.entries j known)
      ∙ sym (ap (λ o. is_some (option_and_then (λ s. awaited_job s host.entries j) o)) (slice_get-get_or host.tenants j.tenant no_tenant (omega (arith, lt, stands.as_many))))

  -- a completion
  pub stands_after_done : (host : HostStanding) (state : HostState) (j : JobId) (entries : List TableEntry) → Stands setting host state
      → ((k : JobId) → has_result entries k ≡ (same_job j k || has_result host.entries k))
      → Stands setting (record host { entries = entries }) (record state { counted = j ∷ state.counted })
  stands_after_done host state j entries stands added = record {
    same_config = stands.same_config;
    same_clock = stands.same_clock;
    as_many = stands.as_many;
    all_rows = stands.all_rows;
    placed = stands.placed;
    each = stands.each;
    counts = stands.counts;
    results = λ k. added k ∙ ap (λ b. same_job j k || b) (stands.results k);
  }

  -- after a completion, by whether it was awaited
  pub done_awaited : (state : HostState) (j : JobId) (host : HostStanding) → is_awaited state j ≡ true → Stands setting host (record state { counted = j ∷ state.counted })
      → Stands setting host (after_event setting state (Done j))
  done_awaited state j host e stands = subst (λ b. Stands setting host (cond b (record state { counted = j ∷ state.counted }) state)) (sym e) stands

-- an awaited job has the name that was asked for
pub released_name : (s : Standing) (j : JobId) (d : JobValue) → released_job s j ≡ Some d → d.id ≡ j
released_name s j d e = program s.row.program e
  where
    found : (p : GiottoProgram) (o : Option ActiveTask) → find (λ a. same_job (job_of s.tenancy.owner.place a) j) s.row.active ≡ o → option_map (job_in p s.tenancy.owner.place) o ≡ Some d → d.id ≡ j
    found p None e f = absurd (cc)
    found p (Some a) e f =
        let same : job_in p s.tenancy.owner.place a ≡ d = cc in
        ap (λ (k : JobValue). k.id) (sym same) ∙ same_job_is (job_of s.tenancy.owner.place a) j (find_passes (λ a. same_job (job_of s.tenancy.owner.place a) j) s.row.active a e)

    program : (o : Option GiottoProgram) → option_and_then (λ p. option_map (job_in p s.tenancy.owner.place) (find (λ a. same_job (job_of s.tenancy.owner.place a) j) s.row.active)) o ≡ Some d → d.id ≡ j
    program None f = absurd (cc)
    program (Some p) f = found p (find (λ a. same_job (job_of s.tenancy.owner.place a) j) s.row.active) refl f

awaited_name : (s : Standing) (entries : List TableEntry) (j : JobId) (d : JobValue) → awaited_job s entries j ≡ Some d → d.id ≡ j
awaited_name s entries j d e = by (has_result entries j) e
  where
    by : (b : Bool) → cond b None (released_job s j) ≡ Some d → d.id ≡ j
    by true f = absurd (cc)
    by false f = released_name s j d f

pub awaited_name_in : (host : HostStanding) (j : JobId) (d : JobValue) → awaited_in host j ≡ Some d → d.id ≡ j
awaited_name_in host j d e = by (slice_get host.tenants j.tenant) e
  where
    by : (o : Option Standing) → option_and_then (λ s. awaited_job s host.entries j) o ≡ Some d → d.id ≡ j
    by None f = absurd (cc)
    by (Some s) f = awaited_name s host.entries j d f

-- if an answer is one thing, it is whatever equals that
pub told_as : {A E : Type 0} (result : Result A E) (x y : A) → x ≡ y → IfOk result (λ a. a ≡ x) → IfOk result (λ a. a ≡ y)
told_as (Err e) x y same is = tt
told_as (Ok a) x y same is = is ∙ same

-- a tenant returns a job for a name exactly if the definitions await it
pub job_awaits : {E : Type 0} (host : HostStanding) (j : JobId) (before : Standing) (result : Result (Option JobValue) E)
    → j.tenant < length host.tenants → before ≡ get_or host.tenants j.tenant before → All (IsAt host.clock) host.tenants → ArePlaced host.tenants
    → IfOk result (λ job. job ≡ awaited_job before host.entries j)
    → IfOk result (λ job. (setting : Setting) (state : HostState) → Stands setting (record host { tenants = map at_rest host.tenants }) state → is_some job ≡ is_awaited state j)
job_awaits host j before (Err e) within here known placed is = tt
job_awaits host j before (Ok job) within here known placed is = λ setting state view.
    let stands : Stands setting host state = stands_inside setting host state view in
    let same : before ≡ tenant_at host.tenants j.tenant = here ∙ get_or_default host.tenants j.tenant before no_tenant within in
    ap is_some is
    ∙ (ap (λ s. is_some (awaited_job s host.entries j)) same
    ∙ (sym (ap (λ o. is_some (option_and_then (λ s. awaited_job s host.entries j) o)) (slice_get-get_or host.tenants j.tenant no_tenant within))
    ∙ sym (awaits_here setting host state j (omega (arith, within, stands.as_many)) stands placed (known j.tenant no_tenant within).1.known)))
