-- What an instant of all tenants does, from what its halves and the table's changes do.
use Rattle.std.proofs.Common.{◌≡◌, ℕ, ◌+◌, ◌-◌, ◌<◌, ◌≤◌, ⊎_elim, Bool, true, false, cond, not, ◌&&◌, ◌||◌, ℤ, List, [], length, map, drop, Option, Some, None, refl, sym, ap, ◌∙◌, subst, arith}
use Rattle.std.specs.Prelude.{is_some, IfSome, sum}
use Rattle.std.specs.List.{All, AllByRecursion, flat_map}
use Rattle.std.specs.Option.{option_and_then, option_map}
use Rattle.std.proofs.Math.ListN as lists
use Rattle.std.proofs.lemmas.Bool.{cases_lt, or_from, true≢false, false≢true, false_from_ne_true}
use Rattle.std.proofs.lemmas.List.{get_or_default, length-map}
use Rattle.std.proofs.lemmas.List.Concat.{length-flat_map}
use Rattle.std.proofs.lemmas.List.Folds.{list_any-append}
use Rattle.std.proofs.lemmas.List.Sums.{sum-map}
use Rattle.std.proofs.lemmas.Simd.{map-map}
use Rattle.rig_model.specs.declared.jobs.JobId.{JobId}
use Rattle.tenant_jobs.specs.declared.jobs.JobResult.{JobResult}
use Rattle.tenant_state.specs.job_table.Finished.{TableEntry, entry_in, result_in, has_result}
use Rattle.tenant_state.specs.job_table.cited.Finished.{is_entered, result_of}
use Rattle.rig_model.specs.Jobs.{same_job, job_of, has_job}
use Rattle.rig_model.specs.Granted.{granted_by, granted_from, granted_to, granted_along}
use Rattle.giotto_tasks.specs.Names.{same_name}
use Rattle.std.proofs.lemmas.List.Quantifiers.{position-Some}
use Rattle.rig_model.specs.grants.Grants.{granted_value, name_of_place, offer_of, place_in}
use Rattle.rig_model.specs.declared.grants.rows.Bind.{Bind}
use Rattle.rig_model.specs.FirstHalf.{due_tasks, first_half_of, unfinished_tasks}
use Rattle.rig_model.specs.Instants.{LocalInstant, after_instant}
use Rattle.rig_model.specs.Row.{actuator_value, ActiveTask, Row}
use Rattle.tenant_state.specs.Jobs.{job_in, released_at}
use Rattle.tenant_state.specs.Standing.{Standing, StandsFor, no_tenant, most_released, with_last}
use Rattle.rig_model.specs.Tenancies.{Tenancy}
use Rattle.tenant_state.specs.cited.Standing.{HasItsEntries, HasItsResults, AreReleased, without_ended}
use Rattle.tenant_state.specs.cited.Halves.{IsFirstHalf, first_half_by}
use Rattle.rig_model.specs.SecondHalf.{second_half_of}
use Rattle.rig_model.specs.Readings.{readings_within}
use Rattle.instant_engine.specs.cited.Instants.{AreInstants, AreStepped, IsBetween, StandForRows, instant_by}
use Rattle.instant_engine.specs.cited.Tables.{IsTaskTable}
use Rattle.instant_engine.specs.Tenants.{ArePlaced, most_of, tenant_at}
use Rattle.instant_engine.specs.cited.Tenants.{HaveRoster, binds_of, granted_at, is_active_among, roster_among, rows_of}
use Rattle.instant_engine.specs.cited.Halves.{AreGranted, AreSecondHalves, AreToldEnded, CanGiveJobs, IsReady, IsSecondHalfAndKnown, is_ended_among, is_released_among, last_jobs}
use Rattle.giotto_tasks.proofs.cited.ListLemmas.{all_map, all_with, find_passes}
use Rattle.rig_model.proofs.cited.JobNames.{same_job_is, own_jobs_active}
use Rattle.rig_laws.proofs.cited.ActiveTasks.{keeps_first_half}
use Rattle.rig_laws.proofs.cited.ActiveTasks.{kept_by_instant, kept_by_second_half}
use Rattle.tenant_state.proofs.cited.NoneDue.{none_due_after}
use Rattle.instant_engine.proofs.Entered.{none_outside, older_and_newer}
use Rattle.instant_engine.proofs.cited.Loops.{placed_behind, sums_within}
use Rattle.instant_engine.proofs.Named.{holds_of_job}

outside : (tenants : List Standing) (t : ℕ) → length tenants ≤ t → tenant_at tenants t ≡ no_tenant
outside tenants t past = lists.get_or-eq_default tenants no_tenant past

none_active : (tenants : List Standing) (j : JobId) → length tenants ≤ j.tenant → is_active_among tenants j ≡ false
none_active tenants j past = ap (λ (s : Standing). has_job s.tenancy.owner.place s.row.active j) (outside tenants j.tenant past)

-- what holds of each tenant by its place
pub all_at : (P : Standing → Type 0) (tenants : List Standing) → ((t : ℕ) → t < length tenants → P (tenant_at tenants t)) → All P tenants
all_at P tenants each t d lt = subst P (get_or_default tenants t no_tenant d lt) (each t lt)

-- tenants without what ended
at_kept : (tenants : List Standing) (t : ℕ) → tenant_at (map without_ended tenants) t ≡ without_ended (tenant_at tenants t)
at_kept tenants t = lists.get_or-map without_ended tenants t no_tenant

all_kept : (P Q : Standing → Type 0) (tenants : List Standing) → ((s : Standing) → Q s → P (without_ended s)) → All Q tenants → All P (map without_ended tenants)
all_kept P Q tenants each all =
    all_at P (map without_ended tenants)
    (λ t lt. subst P (sym (at_kept tenants t)) (each (tenant_at tenants t) (all t no_tenant (omega (arith, length-map tenants without_ended)))))

pub binds_kept : (tenants : List Standing) → binds_of (map without_ended tenants) ≡ binds_of tenants
binds_kept tenants =
    let binds : Standing → ℕ = λ s. length s.row.binds in
    sym (sum-map binds (map without_ended tenants)) ∙ (ap sum (map-map binds without_ended tenants) ∙ sum-map binds tenants)

most_kept : (tenants : List Standing) → most_of (map without_ended tenants) ≡ most_of tenants
most_kept tenants =
    let most : Standing → ℕ = λ s. most_released s.row in
    sym (sum-map most (map without_ended tenants)) ∙ (ap sum (map-map most without_ended tenants) ∙ sum-map most tenants)

placed_kept : (tenants : List Standing) → ArePlaced tenants → ArePlaced (map without_ended tenants)
placed_kept tenants placed t lt = ap (λ (s : Standing). s.tenancy.owner.place) (at_kept tenants t) ∙ placed t (omega (arith, length-map tenants without_ended))

-- tenants between the halves of an instant, and before it
pub record AreHalfway (before kept : List Standing) : Type 0 where
  pub as_many : length kept ≡ length before
  pub rest : All (λ (s : Standing). s.ready.ended ≡ []) kept
  pub ended_due : All (λ (s : Standing). due_tasks s.row ≡ []) kept
  pub placed : ArePlaced kept
  pub ready : All IsReady kept
  pub few : most_of kept ≤ most_of before

-- each tenant's tasks are active among all
its_jobs : (tenants : List Standing) → ArePlaced tenants → (t : ℕ) → t < length tenants
    → AllByRecursion (λ a. is_active_among tenants (job_of (tenant_at tenants t).tenancy.owner.place a) ≡ true) (tenant_at tenants t).row.active
its_jobs tenants placed t lt =
    let s : Standing = tenant_at tenants t in
    all_map (λ a. has_job s.tenancy.owner.place s.row.active (job_of s.tenancy.owner.place a) ≡ true) (λ a. is_active_among tenants (job_of s.tenancy.owner.place a) ≡ true) s.row.active
    (λ a e. ap (λ t. has_job (tenant_at tenants t).tenancy.owner.place (tenant_at tenants t).row.active (job_of s.tenancy.owner.place a)) (placed t lt) ∙ e)
    (own_jobs_active s.tenancy.owner.place s.row)

-- an entry has its name, and without an entry there is no result
entry_whole : (entries : List TableEntry) (j : JobId) → is_entered entries j ≡ true → entry_in entries j ≡ Some (record { id = j; result = result_in entries j })
entry_whole entries j = by (entry_in entries j) refl
  where
    by : (o : Option TableEntry) → entry_in entries j ≡ o → is_some o ≡ true → o ≡ Some (record { id = j; result = option_and_then (λ (e : TableEntry). e.result) o })
    by (Some e) at entered = ap Some (λ k. record { id = same_job_is e.id j (find_passes (λ (e : TableEntry). same_job e.id j) entries e at) k; result = e.result })
    by None at entered = absurd (false≢true entered)

none_came : (entries : List TableEntry) (j : JobId) → is_entered entries j ≡ false → result_in entries j ≡ None
none_came entries j = by (entry_in entries j)
  where
    by : (o : Option TableEntry) → is_some o ≡ false → option_and_then (λ (e : TableEntry). e.result) o ≡ None
    by (Some e) absent = absurd (true≢false absent)
    by None absent = refl

-- tenants between two instants, and the table of their active tasks
module _ {before : List Standing} {entries : List TableEntry} (placed : ArePlaced before) (between : All IsBetween before) (table : IsTaskTable before entries) where
  pub all_its_entries : All (λ (s : Standing). HasItsEntries s entries) before
  all_its_entries =
      all_at (λ s. HasItsEntries s entries) before
      (λ t lt.
      let s : Standing = tenant_at before t in
      all_map (λ a. is_active_among before (job_of s.tenancy.owner.place a) ≡ true) (λ a. is_entered entries (job_of s.tenancy.owner.place a) ≡ true) s.row.active (λ a e. table.entered (job_of s.tenancy.owner.place a) ∙ e) (its_jobs before placed t lt))

  -- no active task has the number of the next instant
  early_job : (j : JobId) → j.tenant < length before → is_active_among before j ≡ true → j.tick < (tenant_at before j.tenant).row.next_tick
  early_job j lt =
      let s : Standing = tenant_at before j.tenant in
      holds_of_job (λ i. i.tick < s.row.next_tick) s.tenancy.owner.place s.row.active j (between j.tenant no_tenant lt).known.early

  not_active : (j : JobId) → j.tenant < length before → j.tick ≡ (tenant_at before j.tenant).row.next_tick → is_active_among before j ≡ false
  not_active j lt at = false_from_ne_true _ (λ e. absurd (omega (arith, at, early_job j lt e)))

  -- between the halves
  module _ {middle : List Standing} (first : AreStepped (λ t. IsFirstHalf entries) before middle) where
    pub placed_middle : ArePlaced middle
    placed_middle = placed_behind (λ t. IsFirstHalf entries) (λ t s x half. ap (λ (y : Tenancy). y.owner.place) half.tenancy) before middle first placed

    -- what holds of each active task holds of those that are left
    kept_by_half : (P : ActiveTask → Type 0) (t : ℕ) → t < length before → AllByRecursion P (tenant_at before t).row.active → AllByRecursion P (tenant_at middle t).row.active
    kept_by_half P t lt all =
        let s : Standing = tenant_at before t in
        let half = first.each t lt in
        let own : StandsFor s s.row = λ k. record s.row { records = sym (between t no_tenant lt).known.few_records k } in
        subst (AllByRecursion P) (sym (ap (λ (r : Row). r.active) (half.step s.row own)))
        (keeps_first_half P s.row.next_tick (unfinished_tasks (λ a. has_result entries (job_of s.tenancy.owner.place a)) s.row) s.row (record { each = all; at = refl })).each

    -- each due task ended
    ended_middle : All (λ (s : Standing). due_tasks s.row ≡ []) middle
    ended_middle =
        all_at (λ s. due_tasks s.row ≡ []) middle
        (λ t lt.
        let within : t < length before = omega (arith, lt, first.as_many) in
        let s : Standing = tenant_at before t in
        let own : StandsFor s s.row = λ k. record s.row { records = sym (between t no_tenant within).known.few_records k } in
        ap due_tasks ((first.each t within).step s.row own) ∙ none_due_after (unfinished_tasks (λ a. has_result entries (job_of s.tenancy.owner.place a)) s.row) s.row)

    active_before : (j : JobId) → j.tenant < length before → is_active_among middle j ≡ true → is_active_among before j ≡ true
    active_before j lt =
        let s : Standing = tenant_at middle j.tenant in
        holds_of_job (λ i. is_active_among before i ≡ true) s.tenancy.owner.place s.row.active j
        (kept_by_half (λ a. is_active_among before (job_of s.tenancy.owner.place a) ≡ true) j.tenant lt
        (subst (λ t. AllByRecursion (λ a. is_active_among before (job_of t a) ≡ true) (tenant_at before j.tenant).row.active) (sym (ap (λ (y : Tenancy). y.owner.place) (first.each j.tenant lt).tenancy)) (its_jobs before placed j.tenant lt)))

    not_left : (j : JobId) → j.tenant < length before → j.tick ≡ (tenant_at before j.tenant).row.next_tick → is_active_among middle j ≡ false
    not_left j lt at = false_from_ne_true _ (λ e. true≢false (sym (active_before j lt e) ∙ not_active j lt at))

    pub told : AreToldEnded middle entries
    told j = ⊎_elim inside past (cases_lt j.tenant (length before))
      where
        entered : (is_active_among before j && not (is_active_among middle j)) ≡ (is_entered entries j && not (is_active_among middle j))
        entered = ap (λ b. b && not (is_active_among middle j)) (sym (table.entered j))

        inside : j.tenant < length before → is_ended_among middle j ≡ (is_entered entries j && not (is_active_among middle j))
        inside lt = (first.each j.tenant lt).ended j ∙ entered

        past : length before ≤ j.tenant → is_ended_among middle j ≡ (is_entered entries j && not (is_active_among middle j))
        past le =
            ap (λ (s : Standing). has_job s.tenancy.owner.place s.ready.ended j) (outside middle j.tenant (omega (arith, le, first.as_many)))
            ∙ (ap (λ b. b && not (is_active_among middle j)) (sym (none_active before j le)) ∙ entered)

    pub counts_halfway : (P : ℕ → Type 0) (kept : List Standing) → kept ≡ map without_ended middle → All (λ (s : Standing). P s.row.next_tick) before → All (λ (s : Standing). P s.row.next_tick) kept
    counts_halfway P kept same all =
        rw (same)
        (all_at (λ s. P s.row.next_tick) (map without_ended middle)
        (λ t lt.
        let within : t < length before = omega (arith, lt, length-map middle without_ended, first.as_many) in
        subst P (sym (ap (λ (s : Standing). s.row.next_tick) (at_kept middle t) ∙ (first.each t within).next_tick)) (all t no_tenant within)))

    pub halfway : (kept : List Standing) → kept ≡ map without_ended middle → All IsReady middle → most_of middle ≤ most_of before → AreHalfway before kept
    halfway kept same ready fewer = rw (same) (record {
      as_many = length-map middle without_ended ∙ first.as_many;
      rest = all_at (λ s. s.ready.ended ≡ []) (map without_ended middle) (λ t lt. ap (λ (s : Standing). s.ready.ended) (at_kept middle t));
      ended_due = let Ended : Standing → Type 0 = λ s. due_tasks s.row ≡ [] in all_kept Ended Ended middle (λ s e. e) ended_middle;
      placed = placed_kept middle placed_middle;
      ready = all_kept IsReady IsReady middle (λ s r. record { room = r.room; shares = r.shares }) ready;
      few = omega (arith, most_kept middle, fewer);
    })

    pub none_left : (left : List TableEntry) → ((j : JobId) → entry_in left j ≡ cond (is_active_among middle j) (entry_in entries j) None)
        → (t : ℕ) (j : JobId) → t < length (map without_ended middle) → j.tenant ≡ t → (tenant_at (map without_ended middle) t).row.next_tick ≡ j.tick → is_entered left j ≡ false
    none_left left stays t j lt own at =
        let within : j.tenant < length before = omega (arith, own, lt, length-map middle without_ended, first.as_many) in
        let here : j.tick ≡ (tenant_at before j.tenant).row.next_tick =
        sym at ∙ ap (λ (s : Standing). s.row.next_tick) (ap (tenant_at (map without_ended middle)) (sym own) ∙ at_kept middle j.tenant) ∙ (first.each j.tenant within).next_tick in
        ap is_some (stays j) ∙ ap (λ b. is_some (cond b (entry_in entries j) None)) (not_left j within here)

    -- all still have one roster
    roster_kept : (t : ℕ) → t < length before → (tenant_at (map without_ended middle) t).tenancy.owner.roster ≡ (tenant_at before t).tenancy.owner.roster
    roster_kept t lt = ap (λ (s : Standing). s.tenancy.owner.roster) (at_kept middle t) ∙ ap (λ (y : Tenancy). y.owner.roster) (first.each t lt).tenancy

    pub same_roster : roster_among (map without_ended middle) ≡ roster_among before
    same_roster = ⊎_elim (λ lt. roster_kept 0 lt)
        (λ le. ap (λ (s : Standing). s.tenancy.owner.roster) (outside (map without_ended middle) 0 (omega (arith, le, length-map middle without_ended, first.as_many)) ∙ sym (outside before 0 le)))
        (cases_lt 0 (length before))

    pub roster_halfway : HaveRoster before → HaveRoster (map without_ended middle)
    roster_halfway shared = record {
      same = λ t lt.
          let within : t < length before = omega (arith, lt, length-map middle without_ended, first.as_many) in
          roster_kept t within ∙ shared.same t within ∙ sym same_roster;
      whole = omega (arith, ap length same_roster, shared.whole, length-map middle without_ended, first.as_many);
    }

    -- after the second halves
    module _ (frame : List ℤ) (granted : List (Option ℤ)) {after : List Standing} (shared : HaveRoster before) (passed : AreGranted (map without_ended middle) granted)
        (second : AreSecondHalves frame granted (map without_ended middle) after) where
      as_many : length after ≡ length before
      as_many = second.as_many ∙ length-map middle without_ended ∙ first.as_many

      its_half : (t : ℕ) → t < length before → IsSecondHalfAndKnown frame (granted_at (map without_ended middle) t granted) (without_ended (tenant_at middle t)) (tenant_at after t)
      its_half t lt =
          subst (λ s. IsSecondHalfAndKnown frame (granted_at (map without_ended middle) t granted) s (tenant_at after t)) (at_kept middle t) (second.each t (omega (arith, lt, length-map middle without_ended, first.as_many)))

      -- the rows that the tenants represent
      module _ (rows : ℕ → Row) (stand : StandForRows before rows) where
        abbrev halves : ℕ → Row
        halves u = first_half_of (unfinished_tasks (λ a. has_result entries (job_of u a)) (rows u)) (rows u)

        kept_row : (u : ℕ) → u < length before → rows_of (map without_ended middle) u ≡ with_last (tenant_at middle u).tenancy.budgets.trace (halves u)
        kept_row u lt =
            ap (λ (s : Standing). s.row) (at_kept middle u) ∙ (first.each u lt).step (rows u) (stand u lt)
            ∙ ap (λ k. with_last (tenant_at middle u).tenancy.budgets.trace (first_half_by entries k (rows u))) (placed u lt)

        same_offers : (u : ℕ) → u < length before → (rows_of (map without_ended middle) u).offers ≡ (rows u).offers
        same_offers u lt = ap (λ (s : Standing). s.row.offers) (at_kept middle u) ∙ (first.each u lt).offers ∙ ap (λ (r : Row). r.offers) (stand u lt)

        same_binds : (u : ℕ) → u < length before → (rows_of (map without_ended middle) u).binds ≡ (rows u).binds
        same_binds u lt = ap (λ (s : Standing). s.row.binds) (at_kept middle u) ∙ (first.each u lt).binds ∙ ap (λ (r : Row). r.binds) (stand u lt)

        -- what is granted through a bind
        same_granted : (t : ℕ) (b : Bind)
            → granted_by (roster_among (map without_ended middle)) (rows_of (map without_ended middle)) (rows_of (map without_ended middle)) t b ≡ granted_by (roster_among before) rows halves t b
        same_granted t b = (λ k. granted_by (same_roster k) (rows_of (map without_ended middle)) (rows_of (map without_ended middle)) t b) ∙ by (place_in (roster_among before) b.tenant) refl
          where
            by : (o : Option ℕ) → place_in (roster_among before) b.tenant ≡ o
                → option_and_then (granted_from (roster_among before) (rows_of (map without_ended middle)) (rows_of (map without_ended middle)) t b.actuator) o ≡ option_and_then (granted_from (roster_among before) rows halves t b.actuator) o
            by None e = refl
            by (Some u) e =
                let lt : u < length before = omega (arith, (position-Some (λ n. same_name n b.tenant) (roster_among before) u [] e).0, shared.whole) in
                λ k. option_and_then (λ o. option_map (granted_value o) (actuator_value (kept_row u lt k) b.actuator)) (offer_of (same_offers u lt k) b.actuator (name_of_place (roster_among before) t))

        same_granted_to : (t : ℕ) → t < length before
            → granted_along (without_ended (tenant_at middle t)).row.binds (granted_at (map without_ended middle) t granted) ≡ granted_to (roster_among before) rows halves t
        same_granted_to t lt =
            (λ k. granted_along (sym (at_kept middle t) k).row.binds (passed t (omega (arith, lt, length-map middle without_ended, first.as_many)) k))
            ∙ (λ k. granted_along (same_binds t lt k) (map (λ b. same_granted t b k) (same_binds t lt k)))

        stands_behind : (t : ℕ) → t < length before → StandsFor (tenant_at after t) (after_instant (instant_by before frame entries rows t) (rows t))
        stands_behind t lt =
            let half = first.each t lt in
            let own : StandsFor (without_ended (tenant_at middle t)) (halves t) = ap (λ (s : Standing). s.row) (sym (at_kept middle t)) ∙ kept_row t lt in
            (its_half t lt).half.step (halves t) own
            ∙ (λ k. with_last (tenant_at after t).tenancy.budgets.trace (second_half_of (readings_within (half.tenancy k).budgets.reads frame) (same_granted_to t lt k) (halves t)))

      pub instants : AreInstants frame entries before after
      instants = record {
        moved = record {
          as_many = as_many;
          each = λ t lt.
              let half = first.each t lt in
              let both = its_half t lt in
              record {
                next_tick = both.half.next_tick ∙ ap (λ n. n + 1) half.next_tick;
                tenancy = both.half.tenancy ∙ half.tenancy;
                between = record { known = both.known; binds = both.binds; rest = both.half.ended };
              };
        };
        step = stands_behind;
      }

      placed_after : ArePlaced after
      placed_after t lt = let within : t < length before = omega (arith, lt, as_many) in ap (λ (y : Tenancy). y.owner.place) (instants.moved.each t within).tenancy ∙ placed t within

      active_after : (j : JobId) → is_active_among after j ≡ (is_active_among middle j || is_released_among (map without_ended middle) after j)
      active_after j = ⊎_elim inside past (cases_lt j.tenant (length before))
        where
          t : ℕ
          t = j.tenant

          m : Standing
          m = tenant_at middle t

          a : Standing
          a = tenant_at after t

          inside : t < length before → is_active_among after j ≡ (is_active_among middle j || is_released_among (map without_ended middle) after j)
          inside lt =
              let both = its_half t lt in
              let new : List ActiveTask = drop (length m.row.active) a.row.active in
              ap (λ xs. has_job a.tenancy.owner.place xs j) (older_and_newer m.row a.row both.released)
              ∙ list_any-append (λ (task : ActiveTask). same_job (job_of a.tenancy.owner.place task) j) m.row.active new
              ∙ ap (λ (y : Tenancy). has_job y.owner.place m.row.active j || has_job a.tenancy.owner.place new j) both.half.tenancy
              ∙ ap (λ (s : Standing). has_job m.tenancy.owner.place m.row.active j || has_job a.tenancy.owner.place (drop (length s.row.active) a.row.active) j) (sym (at_kept middle t))

          past : length before ≤ t → is_active_among after j ≡ (is_active_among middle j || is_released_among (map without_ended middle) after j)
          past le =
              none_active after j (omega (arith, le, as_many))
              ∙ sym (or_from _ _ (none_active middle j (omega (arith, le, first.as_many))) (none_outside t (map without_ended middle) after (omega (arith, le, as_many)) j (omega arith)))

      -- what was released had no entry
      released_anew : (j : JobId) → is_released_among (map without_ended middle) after j ≡ true → is_entered entries j ≡ false
      released_anew j holds = table.entered j ∙ ⊎_elim inside (none_active before j) (cases_lt j.tenant (length before))
        where
          t : ℕ
          t = j.tenant

          inside : t < length before → is_active_among before j ≡ false
          inside lt =
              let a : Standing = tenant_at after t in
              let kept : Standing = tenant_at (map without_ended middle) t in
              let count : kept.row.next_tick ≡ (tenant_at before t).row.next_tick = ap (λ (s : Standing). s.row.next_tick) (at_kept middle t) ∙ (first.each t lt).next_tick in
              let released : AreReleased kept.row a.row = (second.each t (omega (arith, lt, length-map middle without_ended, first.as_many))).released in
              not_active j lt (holds_of_job (λ i. i.tick ≡ kept.row.next_tick) a.tenancy.owner.place (drop (length kept.row.active) a.row.active) j released.newer holds ∙ count)

      -- the jobs of what was released: they are no more than can be released, and the tenants can give them
      its_last : (t : ℕ) → t < length (map without_ended middle)
          → last_jobs (tenant_at after t) ≡ released_at (tenant_at (map without_ended middle) t).tenancy.owner.place (tenant_at (map without_ended middle) t).row.next_tick (tenant_at after t).row
      its_last t lt =
          let half = (second.each t lt).half in
          let last : (tenant_at after t).row.next_tick - 1 ≡ (tenant_at (map without_ended middle) t).row.next_tick = omega (arith, half.next_tick) in
          λ k. released_at (half.tenancy k).owner.place (last k) (tenant_at after t).row

      pub few_jobs : most_of (map without_ended middle) ≤ most_of before → length (flat_map last_jobs after) ≤ most_of before
      few_jobs fewer =
          omega (
            arith,
            length-flat_map last_jobs after,
            sums_within (λ s. length (last_jobs s)) (λ (s : Standing). most_released s.row) no_tenant no_tenant after (map without_ended middle) second.as_many
                (λ t lt. let within : t < length (map without_ended middle) = omega (arith, lt, second.as_many) in omega (arith, ap length (its_last t within), (second.each t within).few)),
            fewer,
          )

      pub can_give : All IsReady (map without_ended middle) → All CanGiveJobs after
      can_give ready =
          all_at CanGiveJobs after
          (λ t lt some.
          let within : t < length (map without_ended middle) = omega (arith, lt, second.as_many) in
          let half = second.each t within in
          half.shared ((ready t no_tenant within).shares (omega (arith, some, ap length (its_last t within), half.few))))

      -- the table without what ended, and with what was released
      module _ (left new : List TableEntry) (stays : (j : JobId) → entry_in left j ≡ cond (is_active_among middle j) (entry_in entries j) None)
          (enters : (j : JobId) → entry_in new j ≡ cond (is_released_among (map without_ended middle) after j) (Some (record { id = j; result = None })) (entry_in left j)) where
        pub entries_behind : (j : JobId) → entry_in new j ≡ cond (is_active_among after j) (Some (record { id = j; result = result_in entries j })) None
        entries_behind j =
            enters j ∙ (ap (cond (is_released_among (map without_ended middle) after j) (Some (record { id = j; result = None }))) (stays j)
            ∙ (by (is_released_among (map without_ended middle) after j) (is_active_among middle j) refl refl ∙ ap (λ b. cond b (Some (record { id = j; result = result_in entries j })) None) (sym (active_after j))))
          where
            its_entry : Option JobResult → Option TableEntry
            its_entry r = Some (record { id = j; result = r })

            anew : is_released_among (map without_ended middle) after j ≡ true → its_entry None ≡ its_entry (result_in entries j)
            anew holds = ap its_entry (sym (none_came entries j (released_anew j holds)))

            stayed : is_active_among middle j ≡ true → entry_in entries j ≡ Some (record { id = j; result = result_in entries j })
            stayed holds = entry_whole entries j (table.entered j ∙ ⊎_elim (λ lt. active_before j lt holds) (λ le. absurd (true≢false (sym holds ∙ none_active middle j (omega (arith, le, first.as_many))))) (cases_lt j.tenant (length before)))

            by : (released active : Bool) → is_released_among (map without_ended middle) after j ≡ released → is_active_among middle j ≡ active
                → cond released (Some (record { id = j; result = None })) (cond active (entry_in entries j) None) ≡ cond (active || released) (Some (record { id = j; result = result_in entries j })) None
            by true true r a = anew r
            by true false r a = anew r
            by false true r a = stayed a
            by false false r a = refl

        results_behind : (t : ℕ) → t < length before → HasItsResults (tenant_at after t) new
        results_behind t lt p is =
            let s : Standing = tenant_at before t in
            let a : Standing = tenant_at after t in
            let one = instants.moved.each t lt in
            let own : StandForRows before (rows_of before) = λ u below k. record (rows_of before u) { records = sym (between u no_tenant below).known.few_records k } in
            let i : LocalInstant = instant_by before frame entries (rows_of before) t in
            let Right : ActiveTask → Type 0 = λ x. IfSome (result_in entries (job_of s.tenancy.owner.place x)) (λ r. r ≡ result_of (job_in p s.tenancy.owner.place x)) in
            let fresh : (x : ActiveTask) → x.release ≡ s.row.next_tick → Right x = λ x at.
            subst (λ o. IfSome o (λ r. r ≡ result_of (job_in p s.tenancy.owner.place x)))
            (sym (none_came entries (job_of s.tenancy.owner.place x)
            (table.entered (job_of s.tenancy.owner.place x) ∙ not_active (job_of s.tenancy.owner.place x) (omega (arith, lt, placed t lt)) (at ∙ ap (λ k. (tenant_at before k).row.next_tick) (sym (placed t lt)))))) tt in
            let all : AllByRecursion Right a.row.active =
            subst (AllByRecursion Right) (sym (ap (λ (r : Row). r.active) (instants.step (rows_of before) own t lt)))
            (⊎_elim
            (λ same. (kept_by_instant Right s.row.next_tick fresh i s.row (record { each = table.results t no_tenant lt p (sym (same ∙ (first.each t lt).program) ∙ is); at = refl })).0)
            (λ none.
            let kept = kept_row (rows_of before) own t lt in
            kept_by_second_half Right s.row.next_tick fresh i.readings i.granted (halves (rows_of before) own t)
            (record {
              each = subst (AllByRecursion Right) (sym (sym (ap (λ (r : Row). r.active) kept) ∙ ap (λ (x : Standing). x.row.active) (at_kept middle t) ∙ none)) tt;
              at = sym (ap (λ (r : Row). r.next_tick) kept) ∙ ap (λ (x : Standing). x.row.next_tick) (at_kept middle t) ∙ (first.each t lt).next_tick;
            }))
            (its_half t lt).half.program) in
            all_with Right (λ x. is_active_among after (job_of a.tenancy.owner.place x) ≡ true) (λ x. IfSome (result_in new (job_of a.tenancy.owner.place x)) (λ r. r ≡ result_of (job_in p a.tenancy.owner.place x)))
            (λ x right active.
            subst (λ o. IfSome o (λ r. r ≡ result_of (job_in p a.tenancy.owner.place x)))
            (sym (ap (option_and_then (λ (e : TableEntry). e.result)) (entries_behind (job_of a.tenancy.owner.place x))
            ∙ ap (λ b. option_and_then (λ (e : TableEntry). e.result) (cond b (Some (record { id = job_of a.tenancy.owner.place x; result = result_in entries (job_of a.tenancy.owner.place x) })) None)) active))
            (subst (λ (y : Tenancy). IfSome (result_in entries (job_of y.owner.place x)) (λ r. r ≡ result_of (job_in p y.owner.place x))) (sym one.tenancy) right))
            a.row.active all (its_jobs after placed_after t (omega (arith, lt, as_many)))

        pub table_behind : IsTaskTable after new
        table_behind = record {
          entered = λ j. ap is_some (entries_behind j) ∙ told_by (is_active_among after j) (record { id = j; result = result_in entries j });
          results = all_at (λ s. HasItsResults s new) after (λ t lt. results_behind t (omega (arith, lt, as_many)));
        }
          where
            told_by : (b : Bool) (e : TableEntry) → is_some (cond b (Some e) None) ≡ b
            told_by true e = refl
            told_by false e = refl
