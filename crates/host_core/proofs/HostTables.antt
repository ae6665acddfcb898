-- The table of a host's active tasks after a command, a completion, and the completion of outstanding jobs.
use Rattle.std.proofs.Common.{◌≡◌, ◌≢◌, ◌⊎◌, ℕ, ◌+◌, ◌<◌, ◌≤◌, ⊎_elim, inl, inr, Bool, true, false, cond, not, ◌&&◌, ◌||◌, List, [], ◌∷◌, filter, length, get_or, set, length-set, take, Option, Some, None, refl, sym, ap, ◌∙◌, subst, arith}
use Rattle.std.specs.Prelude.{is_some, IfSome}
use Rattle.std.specs.List.{AllByRecursion, find, list_all}
use Rattle.std.specs.Option.{option_and_then, option_map}
use Rattle.std.proofs.Math.ListN.{get_or-eq_default}
use Rattle.std.proofs.lemmas.Bool.{and_parts, or_left, or_right, cases_eq, cases_lt, false_from_ne_true, false≢true}
use Rattle.std.proofs.lemmas.List.{get_or_default, get_or-set_same, get_or-set_other, get_or-take, length-take}
use Rattle.rig_model.specs.text.Program.{GiottoProgram}
use Rattle.rig_model.specs.declared.jobs.JobId.{JobId}
use Rattle.instant_engine.specs.job_table.Finished.{TableEntry, entry_in, has_result, result_in}
use Rattle.instant_engine.specs.job_table.cited.Finished.{is_entered, result_of}
use Rattle.instant_engine.specs.job_table.Jobs.{JobValue}
use Rattle.rig_model.specs.Jobs.{same_job, has_job, job_of}
use Rattle.rig_model.proofs.cited.JobNames.{same_job_is, same_job_self}
use Rattle.instant_engine.specs.state.Jobs.{job_in}
use Rattle.rig_model.specs.Row.{ActiveTask}
use Rattle.instant_engine.specs.state.Standing.{Standing, IsKnown, all_different_releases, no_tenant, is_another, released_job}
use Rattle.instant_engine.specs.state.cited.Standing.{HasItsEntries, HasItsResults, AreEnded, AreTasksKept, has_active, without_ended}
use Rattle.instant_engine.specs.cited.Tables.{IsTaskTable}
use Rattle.instant_engine.specs.Tenants.{ArePlaced, tenant_at}
use Rattle.instant_engine.specs.cited.Tenants.{is_active_among}
use Rattle.rig_model.specs.Tenancies.{Tenancy}
use Rattle.rig_model.specs.config.Roster.{Rig}
use Rattle.host_core.specs.inner.HostStanding.{IsAt, IsWhole}
use Rattle.giotto_tasks.proofs.cited.ListLemmas.{all_map, all_of, all_pass, any_if_all, same_filter}
use Rattle.instant_engine.proofs.cited.Loops.{sums_within}
use Rattle.host_core.specs.HostStanding.{outstanding_from}
use Rattle.host_core.proofs.HostSteps.{AreResultsStill, tenancies_set, placed_set, released_is}
use Rattle.host_core.proofs.cited.Outstanding.{another_job, counted_from, number_outstanding}

-- the job of a tenant's task is of that tenant
pub own_job : (t : ℕ) (tasks : List ActiveTask) (j : JobId) → has_job t tasks j ≡ true → t ≡ j.tenant
own_job t tasks j e =
    any_if_all (λ (a : ActiveTask). same_job (job_of t a) j) (t ≡ j.tenant) tasks (all_of (λ a same. ap (λ (i : JobId). i.tenant) (same_job_is (job_of t a) j same)) tasks) e

pub other_job : (t : ℕ) (tasks : List ActiveTask) (j : JobId) → t ≢ j.tenant → has_job t tasks j ≡ false
other_job t tasks j differ = false_from_ne_true (has_job t tasks j) (λ e. differ (own_job t tasks j e))

-- a job with a result has an entry
pub entered_of_result : (entries : List TableEntry) (j : JobId) → has_result entries j ≡ true → is_entered entries j ≡ true
entered_of_result entries j e = by (entry_in entries j) e
  where
    by : (o : Option TableEntry) → is_some (option_and_then (λ (e : TableEntry). e.result) o) ≡ true → is_some o ≡ true
    by None h = absurd (false≢true h)
    by (Some entry) h = refl

-- if the results of a tenant's active tasks stay as they are, they stay right
pub results_moved : (s : Standing) (before after : List TableEntry) → ((a : ActiveTask) → result_in after (job_of s.tenancy.owner.place a) ≡ result_in before (job_of s.tenancy.owner.place a))
    → HasItsResults s before → HasItsResults s after
results_moved s before after same right p has =
    all_map _ _ s.row.active (λ a h. subst (λ o. IfSome o (λ r. r ≡ result_of (job_in p s.tenancy.owner.place a))) (sym (same a)) h) (right p has)

either_way : (a b : Bool) → (b ≡ false) ⊎ (b ≡ a) → b ≡ (a && not (a && not b))
either_way true b which = ⊎_elim (λ e. e ∙ sym (ap (λ c. not (not c)) e)) (λ e. e ∙ sym (ap (λ c. not (not c)) e)) which
either_way false b which = ⊎_elim (λ e. e) (λ e. e) which

-- a command: the tenant at place u was x before it and is y after it, and the ended tasks of y leave the table
module _ (tenants : List Standing) (before after : List TableEntry) (u : ℕ) (x y : Standing) {config : Rig} {clock : ℕ} (whole : IsWhole config clock tenants before)
    (within : u < length tenants) (here : x ≡ tenant_at tenants u) (tenancy : y.tenancy ≡ x.tenancy) (count : y.row.next_tick ≡ x.row.next_tick) (known : IsKnown y.tenancy y.row)
    (binds : length y.row.binds ≤ y.tenancy.owner.most_binds) (ended : AreEnded x y) (active : (y.row.active ≡ []) ⊎ AreTasksKept x y)
    (left : (j : JobId) → entry_in after j ≡ cond (has_job y.tenancy.owner.place y.ready.ended j) None (entry_in before j)) where
  abbrev s : Standing
  s = without_ended y

  abbrev pub tenants_behind : List Standing
  tenants_behind = set tenants u s

  place : y.tenancy.owner.place ≡ x.tenancy.owner.place
  place = ap (λ (z : Tenancy). z.owner.place) tenancy

  own_place : x.tenancy.owner.place ≡ u
  own_place = ap (λ (z : Standing). z.tenancy.owner.place) here ∙ whole.placed u within

  -- whether the job's entry leaves
  abbrev leaves : JobId → Bool
  leaves j = has_job y.tenancy.owner.place y.ready.ended j

  there : (t : ℕ) → t ≢ u → tenant_at tenants_behind t ≡ tenant_at tenants t
  there t differ = get_or-set_other tenants u t s no_tenant differ

  here_behind : tenant_at tenants_behind u ≡ s
  here_behind = get_or-set_same tenants u s no_tenant within

  none_leaves : (j : JobId) → j.tenant ≢ u → leaves j ≡ false
  none_leaves j differ = ended j ∙ ap (λ b. b && not (has_active y j)) (other_job x.tenancy.owner.place x.row.active j (λ e. differ (sym e ∙ own_place)))

  active_behind : (j : JobId) → is_active_among tenants_behind j ≡ (is_active_among tenants j && not (leaves j))
  active_behind j = ⊎_elim
      (λ (same : j.tenant ≡ u).
      let now : is_active_among tenants_behind j ≡ has_active y j = ap (λ (z : Standing). has_job z.tenancy.owner.place z.row.active j) (ap (tenant_at tenants_behind) same ∙ here_behind) in
      let was : is_active_among tenants j ≡ has_active x j = ap (λ (z : Standing). has_job z.tenancy.owner.place z.row.active j) (ap (tenant_at tenants) same ∙ sym here) in
      let which : (has_active y j ≡ false) ⊎ (has_active y j ≡ has_active x j) =
      ⊎_elim (λ none. inl (ap (λ xs. has_job y.tenancy.owner.place xs j) none)) (λ e. inr ((λ k. has_job (tenancy k).owner.place (e.0 k) j))) active in
      now ∙ either_way (has_active x j) (has_active y j) which ∙ ap (λ b. has_active x j && not b) (sym (ended j)) ∙ ap (λ b. b && not (leaves j)) (sym was))
      (λ (differ : j.tenant ≢ u).
      ap (λ (z : Standing). has_job z.tenancy.owner.place z.row.active j) (there j.tenant differ)
      ∙ same_and (is_active_among tenants j) (leaves j) (none_leaves j differ))
      (cases_eq j.tenant u)
    where
      same_and : (a b : Bool) → b ≡ false → a ≡ (a && not b)
      same_and true b e = sym (ap not e)
      same_and false b e = refl

  entered_behind : (j : JobId) → is_entered after j ≡ (is_entered before j && not (leaves j))
  entered_behind j = ap is_some (left j) ∙ by (leaves j) (entry_in before j)
    where
      by : (b : Bool) (o : Option TableEntry) → is_some (cond b None o) ≡ (is_some o && not b)
      by true None = refl
      by true (Some e) = refl
      by false None = refl
      by false (Some e) = refl

  pub command_still : AreResultsStill tenants_behind before after
  command_still j = ap (λ o. is_some (option_and_then (λ (e : TableEntry). e.result) o)) (left j) ∙ by (has_result before j) refl
    where
      kept : (b : Bool) → is_some (option_and_then (λ (e : TableEntry). e.result) (cond b None (entry_in before j))) ≡ (not b && has_result before j)
      kept true = refl
      kept false = refl

      by : (b : Bool) → has_result before j ≡ b → is_some (option_and_then (λ (e : TableEntry). e.result) (cond (leaves j) None (entry_in before j))) ≡ (is_active_among tenants_behind j && has_result before j)
      by true e =
          let act : is_active_among tenants j ≡ true = sym (whole.table.entered j) ∙ entered_of_result before j e in
          kept (leaves j) ∙ ap (λ b. b && has_result before j) (sym (active_behind j ∙ ap (λ b. b && not (leaves j)) act))
      by false e =
          kept (leaves j) ∙ ap (λ b. not (leaves j) && b) e ∙ none (not (leaves j)) ∙ sym (ap (λ b. is_active_among tenants_behind j && b) e ∙ none (is_active_among tenants_behind j))
        where
          none : (b : Bool) → (b && false) ≡ false
          none true = refl
          none false = refl

  -- no entry leaves if the tasks are kept
  none_leaves_kept : AreTasksKept x y → (j : JobId) → leaves j ≡ false
  none_leaves_kept kept j = ended j ∙ (λ k. has_active x j && not (has_job (tenancy k).owner.place (kept.0 k) j)) ∙ never (has_active x j)
    where
      never : (a : Bool) → (a && not a) ≡ false
      never true = refl
      never false = refl

  stays : (j : JobId) → leaves j ≡ false → result_in after j ≡ result_in before j
  stays j e = ap (option_and_then (λ (e : TableEntry). e.result)) (left j ∙ ap (λ b. cond b None (entry_in before j)) e)

  results_behind : (k : ℕ) → k < length tenants → HasItsResults (tenant_at tenants_behind k) after
  results_behind k lt = ⊎_elim
      (λ (same : k ≡ u).
      subst (λ (z : Standing). HasItsResults z after) (sym (ap (tenant_at tenants_behind) same ∙ here_behind))
      (⊎_elim
      (λ none p has. subst (λ (xs : List ActiveTask). AllByRecursion (λ a. IfSome (result_in after (job_of y.tenancy.owner.place a)) (λ r. r ≡ result_of (job_in p y.tenancy.owner.place a))) xs) (sym none) tt)
      (λ e.
      let was : HasItsResults x before = subst (λ (z : Standing). HasItsResults z before) (sym here) (whole.table.results u no_tenant within) in
      let right : HasItsResults y before = λ p has.
      subst (λ (q : ℕ × List ActiveTask). AllByRecursion (λ a. IfSome (result_in before (job_of q.0 a)) (λ r. r ≡ result_of (job_in p q.0 a))) q.1) (λ k. (sym place k, sym e.0 k)) (was p (sym e.1 ∙ has)) in
      results_moved y before after (λ a. stays (job_of y.tenancy.owner.place a) (none_leaves_kept e (job_of y.tenancy.owner.place a))) right)
      active))
      (λ (differ : k ≢ u).
      subst (λ (z : Standing). HasItsResults z after) (sym (there k differ))
      (results_moved (tenant_at tenants k) before after (λ a. stays (job_of (tenant_at tenants k).tenancy.owner.place a) (none_leaves (job_of (tenant_at tenants k).tenancy.owner.place a) (λ e. differ (sym (whole.placed k lt) ∙ e))))
      (whole.table.results k no_tenant lt)))
      (cases_eq k u)

  at_behind : (k : ℕ) → k < length tenants → IsAt clock (tenant_at tenants_behind k)
  at_behind k lt = ⊎_elim
      (λ (same : k ≡ u).
      subst (IsAt clock) (sym (ap (tenant_at tenants_behind) same ∙ here_behind))
      (count ∙ ap (λ (z : Standing). z.row.next_tick) here ∙ (whole.known u no_tenant within).0, record { known = known; binds = binds; rest = refl }))
      (λ (differ : k ≢ u). subst (IsAt clock) (sym (there k differ)) (whole.known k no_tenant lt))
      (cases_eq k u)

  long_behind : length tenants_behind ≡ length tenants
  long_behind = length-set tenants u s

  pub whole_behind : IsWhole config clock tenants_behind after
  whole_behind = record {
    as_many = long_behind ∙ whole.as_many;
    known = λ k d lt. subst (IsAt clock) (sym (get_or_default tenants_behind k d no_tenant lt)) (at_behind k (omega (arith, lt, long_behind)));
    placed = placed_set tenants u s (place ∙ own_place) whole.placed;
    tenancies = tenancies_set config tenants u s (tenancy ∙ ap (λ (z : Standing). z.tenancy) here ∙ whole.tenancies u within) whole.tenancies;
    table = record {
      entered = λ j. entered_behind j ∙ ap (λ b. b && not (leaves j)) (whole.table.entered j) ∙ sym (active_behind j);
      results = λ k d lt. subst (λ (z : Standing). HasItsResults z after) (sym (get_or_default tenants_behind k d no_tenant lt)) (results_behind k (omega (arith, lt, long_behind)));
    };
  }

  -- if no entry of its active tasks leaves, a tenant has as many jobs outstanding as before
  as_many_still : (z : Standing) → ((a : ActiveTask) → leaves (job_of z.tenancy.owner.place a) ≡ false) → number_outstanding after z ≡ number_outstanding before z
  as_many_still z none = ap length (same_filter _ _ z.row.active (all_of (λ a. ap (λ r. not (is_some r)) (stays (job_of z.tenancy.owner.place a) (none a))) z.row.active))

  number_behind : (k : ℕ) → k < length tenants → number_outstanding after (tenant_at tenants_behind k) ≤ number_outstanding before (tenant_at tenants k)
  number_behind k lt = ⊎_elim
      (λ (same : k ≡ u).
      let now = ap (number_outstanding after) (ap (tenant_at tenants_behind) same ∙ here_behind) in
      let was = ap (number_outstanding before) (ap (tenant_at tenants) same ∙ sym here) in
      ⊎_elim
      (λ none. omega (arith, now, ap (λ tasks. length (filter (λ a. not (has_result after (job_of y.tenancy.owner.place a))) tasks)) none))
      (λ kept.
      let moved : number_outstanding after y ≡ number_outstanding after x = λ i. length (filter (λ a. not (has_result after (job_of (tenancy i).owner.place a))) (kept.0 i)) in
      omega (arith, now, was, moved, as_many_still x (λ a. none_leaves_kept kept (job_of x.tenancy.owner.place a))))
      active)
      (λ (differ : k ≢ u).
      omega (
        arith,
        ap (number_outstanding after) (there k differ),
        as_many_still (tenant_at tenants k) (λ a. none_leaves (job_of (tenant_at tenants k).tenancy.owner.place a) (λ e. differ (sym (whole.placed k lt) ∙ e))),
      ))
      (cases_eq k u)

  -- no more jobs are outstanding after it than before
  pub outstanding_behind : length (outstanding_from after 0 tenants_behind) ≤ length (outstanding_from before 0 tenants)
  outstanding_behind =
      omega (
        arith,
        counted_from after 0 tenants_behind,
        counted_from before 0 tenants,
        sums_within (number_outstanding after) (number_outstanding before) no_tenant no_tenant tenants_behind tenants long_behind (λ t lt. number_behind t (omega (arith, lt, long_behind))),
      )

-- a released job is active, and has its entry
pub active_if_released : (tenants : List Standing) (entries : List TableEntry) (d : JobValue) {config : Rig} {clock : ℕ} → IsWhole config clock tenants entries → d.id.tenant < length tenants
    → released_job (tenant_at tenants d.id.tenant) d.id ≡ Some d → is_active_among tenants d.id ≡ true
active_if_released tenants entries d whole within released =
    sym (released_is (tenant_at tenants d.id.tenant) d.id (whole.known d.id.tenant no_tenant within).1.known) ∙ ap is_some released

pub entered_if_released : (tenants : List Standing) (entries : List TableEntry) (d : JobValue) {config : Rig} {clock : ℕ} → IsWhole config clock tenants entries → (x : Standing) → d.id.tenant < length tenants
    → x ≡ get_or tenants d.id.tenant x → released_job x d.id ≡ Some d → is_entered entries d.id ≡ true
entered_if_released tenants entries d whole x within here released =
    whole.table.entered d.id
    ∙ active_if_released tenants entries d whole within
    (subst (λ (s : Standing). released_job s d.id ≡ Some d) (here ∙ get_or_default tenants d.id.tenant x no_tenant within) released)

-- if the releases of some tasks differ, only one of them has a given job
found_alone : (t : ℕ) (j : JobId) (xs : List ActiveTask) (a : ActiveTask) → all_different_releases xs ≡ true → find (λ b. same_job (job_of t b) j) xs ≡ Some a
    → AllByRecursion (λ b. same_job (job_of t b) j ≡ true → b ≡ a) xs
found_alone t j [] a different found = tt
found_alone t j (b ∷ rest) a different found =
    let parts = and_parts (list_all (is_another b) rest) (all_different_releases rest) different in
    by parts.0 (found_alone t j rest a parts.1) (same_job (job_of t b) j) refl found
  where
    by : list_all (is_another b) rest ≡ true → (find (λ b. same_job (job_of t b) j) rest ≡ Some a → AllByRecursion (λ b. same_job (job_of t b) j ≡ true → b ≡ a) rest) → (d : Bool) → same_job (job_of t b) j ≡ d → cond d (Some b) (find (λ b. same_job (job_of t b) j) rest) ≡ Some a → AllByRecursion (λ b. same_job (job_of t b) j ≡ true → b ≡ a) (b ∷ rest)
    by apart later true e is = (
      λ same. let it : b ≡ a = cc in it,
      all_pass _ (is_another b) (λ c other same. absurd (another_job t b c other (same_job_is (job_of t b) j e ∙ sym (same_job_is (job_of t c) j same)))) rest apart,
    )
    by apart later false e is = (λ same. absurd (false≢true (sym e ∙ same)), later is)

-- a completion of an awaited job
module _ (tenants : List Standing) (before after : List TableEntry) (d : JobValue) {config : Rig} {clock : ℕ} (whole : IsWhole config clock tenants before)
    (within : d.id.tenant < length tenants) (released : released_job (tenant_at tenants d.id.tenant) d.id ≡ Some d) (entered : is_entered before d.id ≡ true)
    (added : (k : JobId) → entry_in after k ≡ cond (same_job d.id k) (Some (record { id = k; result = Some (result_of d) })) (entry_in before k)) where
  abbrev x : Standing
  x = tenant_at tenants d.id.tenant

  same_entered : (k : JobId) → is_entered after k ≡ is_entered before k
  same_entered k = ap is_some (added k) ∙ by (same_job d.id k) refl
    where
      by : (b : Bool) → same_job d.id k ≡ b → is_some (cond b (Some (record { id = k; result = Some (result_of d) })) (entry_in before k)) ≡ is_entered before k
      by true e = sym (ap (is_entered before) (sym (same_job_is d.id k e)) ∙ entered)
      by false e = refl

  pub has_added : (k : JobId) → has_result after k ≡ (same_job d.id k || has_result before k)
  has_added k = ap (λ o. is_some (option_and_then (λ (e : TableEntry). e.result) o)) (added k) ∙ by (same_job d.id k)
    where
      by : (b : Bool) → is_some (option_and_then (λ (e : TableEntry). e.result) (cond b (Some (record { id = k; result = Some (result_of d) })) (entry_in before k))) ≡ (b || has_result before k)
      by true = refl
      by false = refl

  -- the job of the task that has its name, in its program
  its_task : (p : GiottoProgram) → x.row.program ≡ Some p → AllByRecursion (λ a. same_job (job_of x.tenancy.owner.place a) d.id ≡ true → job_in p x.tenancy.owner.place a ≡ d) x.row.active
  its_task p has = by (find (λ a. same_job (job_of x.tenancy.owner.place a) d.id) x.row.active) refl (sym (ap (λ o. option_and_then (λ p. option_map (job_in p x.tenancy.owner.place) (find (λ a. same_job (job_of x.tenancy.owner.place a) d.id) x.row.active)) o) has) ∙ released)
    where
      by : (o : Option ActiveTask) → find (λ a. same_job (job_of x.tenancy.owner.place a) d.id) x.row.active ≡ o → option_map (job_in p x.tenancy.owner.place) o ≡ Some d
          → AllByRecursion (λ a. same_job (job_of x.tenancy.owner.place a) d.id ≡ true → job_in p x.tenancy.owner.place a ≡ d) x.row.active
      by None e is = absurd (cc)
      by (Some a) e is =
          let here : job_in p x.tenancy.owner.place a ≡ d = cc in
          all_map _ _ x.row.active (λ b alone same. ap (job_in p x.tenancy.owner.place) (alone same) ∙ here)
          (found_alone x.tenancy.owner.place d.id x.row.active a (whole.known d.id.tenant no_tenant within).1.known.different e)

  result_now : (k : JobId) → result_in after k ≡ cond (same_job d.id k) (Some (result_of d)) (result_in before k)
  result_now k = ap (option_and_then (λ (e : TableEntry). e.result)) (added k) ∙ by (same_job d.id k)
    where
      by : (b : Bool) → option_and_then (λ (e : TableEntry). e.result) (cond b (Some (record { id = k; result = Some (result_of d) })) (entry_in before k)) ≡ cond b (Some (result_of d)) (result_in before k)
      by true = refl
      by false = refl

  -- the result of one task, old or new
  right_now : (p : GiottoProgram) (place : ℕ) (a : ActiveTask) → (same_job d.id (job_of place a) ≡ true → job_in p place a ≡ d)
      → IfSome (result_in before (job_of place a)) (λ r. r ≡ result_of (job_in p place a)) → IfSome (result_in after (job_of place a)) (λ r. r ≡ result_of (job_in p place a))
  right_now p place a is was = subst (λ o. IfSome o (λ r. r ≡ result_of (job_in p place a))) (sym (result_now (job_of place a))) (by (same_job d.id (job_of place a)) refl)
    where
      by : (b : Bool) → same_job d.id (job_of place a) ≡ b → IfSome (cond b (Some (result_of d)) (result_in before (job_of place a))) (λ r. r ≡ result_of (job_in p place a))
      by true e = ap result_of (sym (is e))
      by false e = was

  turned : (i j : JobId) → same_job i j ≡ true → same_job j i ≡ true
  turned i j e = let same = same_job_is i j e in subst (λ k. same_job k i ≡ true) same (subst (λ k. same_job i k ≡ true) (sym same) e)

  results_now : (k : ℕ) → k < length tenants → HasItsResults (tenant_at tenants k) after
  results_now k lt = ⊎_elim
      (λ (same : d.id.tenant ≡ k). subst (λ n. HasItsResults (tenant_at tenants n) after) same
      (λ p has.
      all_zip_map p has))
      (λ (differ : d.id.tenant ≢ k).
      results_moved (tenant_at tenants k) before after
      (λ a. result_now (job_of (tenant_at tenants k).tenancy.owner.place a)
      ∙ ap (λ b. cond b (Some (result_of d)) (result_in before (job_of (tenant_at tenants k).tenancy.owner.place a)))
      (false_from_ne_true _ (λ e. differ (ap (λ (i : JobId). i.tenant) (same_job_is d.id (job_of (tenant_at tenants k).tenancy.owner.place a) e) ∙ whole.placed k lt))))
      (whole.table.results k no_tenant lt))
      (cases_eq d.id.tenant k)
    where
      both : {P Q R : ActiveTask → Type 0} (xs : List ActiveTask) → ((a : ActiveTask) → P a → Q a → R a) → AllByRecursion P xs → AllByRecursion Q xs → AllByRecursion R xs
      both [] f ps qs = tt
      both (a ∷ xs) f ps qs = (f a ps.0 qs.0, both xs f ps.1 qs.1)

      all_zip_map : (p : GiottoProgram) → x.row.program ≡ Some p → AllByRecursion (λ a. IfSome (result_in after (job_of x.tenancy.owner.place a)) (λ r. r ≡ result_of (job_in p x.tenancy.owner.place a))) x.row.active
      all_zip_map p has = both x.row.active (λ a is was. right_now p x.tenancy.owner.place a (λ e. is (turned d.id (job_of x.tenancy.owner.place a) e)) was) (its_task p has) (whole.table.results d.id.tenant no_tenant within p has)

  pub whole_done : IsWhole config clock tenants after
  whole_done = record {
    as_many = whole.as_many;
    known = whole.known;
    placed = whole.placed;
    tenancies = whole.tenancies;
    table = record {
      entered = λ k. same_entered k ∙ whole.table.entered k;
      results = λ k e lt. subst (λ (z : Standing). HasItsResults z after) (sym (get_or_default tenants k e no_tenant lt)) (results_now k lt);
    };
  }

-- the outstanding jobs of the tenant at place i are completed
pub table_completed : (tenants : List Standing) (before after : List TableEntry) (i : ℕ) → ArePlaced tenants → i < length tenants
    → ((j : JobId) → is_entered after j ≡ is_entered before j)
    → (HasItsResults (tenant_at tenants i) before → HasItsResults (tenant_at tenants i) after)
    → ((j : JobId) → has_active (tenant_at tenants i) j ≡ false → entry_in after j ≡ entry_in before j)
    → IsTaskTable tenants before → IsTaskTable tenants after
table_completed tenants before after i placed within entered right others table = record {
  entered = λ j. entered j ∙ table.entered j;
  results = λ k e lt. subst (λ (z : Standing). HasItsResults z after) (sym (get_or_default tenants k e no_tenant lt)) (at k lt);
}
  where
    at : (k : ℕ) → k < length tenants → HasItsResults (tenant_at tenants k) after
    at k lt = ⊎_elim
        (λ (same : i ≡ k). subst (λ n. HasItsResults (tenant_at tenants n) after) same (right (table.results i no_tenant within)))
        (λ (differ : i ≢ k).
        results_moved (tenant_at tenants k) before after
        (λ a. ap (option_and_then (λ (e : TableEntry). e.result))
        (others (job_of (tenant_at tenants k).tenancy.owner.place a)
        (other_job (tenant_at tenants i).tenancy.owner.place (tenant_at tenants i).row.active (job_of (tenant_at tenants k).tenancy.owner.place a) (λ e. differ (sym (placed i within) ∙ e ∙ placed k lt)))))
        (table.results k no_tenant lt))
        (cases_eq i k)

-- the job of each of these tasks is among theirs
own_jobs : (t : ℕ) (tasks : List ActiveTask) → AllByRecursion (λ a. has_job t tasks (job_of t a) ≡ true) tasks
own_jobs t [] = tt
own_jobs t (a ∷ rest) = (
  or_left _ _ (same_job_self (job_of t a)),
  all_map _ _ rest (λ b h. or_right (same_job (job_of t a) (job_of t b)) _ h) (own_jobs t rest),
)

-- each active task of a tenant has its entry in the table
pub has_its_entries : (tenants : List Standing) (entries : List TableEntry) (i : ℕ) (x : Standing) → i < length tenants → x ≡ get_or tenants i x → ArePlaced tenants → IsTaskTable tenants entries
    → HasItsEntries x entries
has_its_entries tenants entries i x within here placed table =
    subst (λ (s : Standing). HasItsEntries s entries) (sym (here ∙ get_or_default tenants i x no_tenant within))
    (all_map _ _ (tenant_at tenants i).row.active
    (λ a own.
    table.entered (job_of (tenant_at tenants i).tenancy.owner.place a)
    ∙ ap (λ k. has_job (tenant_at tenants k).tenancy.owner.place (tenant_at tenants k).row.active (job_of (tenant_at tenants i).tenancy.owner.place a)) (placed i within)
    ∙ own)
    (own_jobs (tenant_at tenants i).tenancy.owner.place (tenant_at tenants i).row.active))

-- whether a job is active in one more tenant
pub active_more : (tenants : List Standing) (i : ℕ) (j : JobId) → ArePlaced tenants → i < length tenants
    → is_active_among (take (i + 1) tenants) j ≡ (is_active_among (take i tenants) j || has_active (tenant_at tenants i) j)
active_more tenants i j placed within = ⊎_elim
    (λ lt. first lt)
    (λ le. ⊎_elim
    (λ (same : j.tenant ≡ i).
    ap (λ (s : Standing). has_job s.tenancy.owner.place s.row.active j) (get_or-take (i + 1) tenants j.tenant no_tenant (omega (arith, same)) ∙ ap (tenant_at tenants) same)
    ∙ ap (λ b. b || has_active (tenant_at tenants i) j) (sym (past i le)))
    (λ (differ : j.tenant ≢ i).
    past (i + 1) (omega (arith, le, differ))
    ∙ sym (ap (λ b. b || has_active (tenant_at tenants i) j) (past i le) ∙ other_job (tenant_at tenants i).tenancy.owner.place (tenant_at tenants i).row.active j (λ e. differ (sym e ∙ placed i within))))
    (cases_eq j.tenant i))
    (cases_lt j.tenant i)
  where
    past : (n : ℕ) → n ≤ j.tenant → is_active_among (take n tenants) j ≡ false
    past n le = ap (λ (s : Standing). has_job s.tenancy.owner.place s.row.active j) (get_or-eq_default (take n tenants) no_tenant (omega (arith, le, length-take n tenants)))

    or_false : (b : Bool) → b ≡ (b || false)
    or_false true = refl
    or_false false = refl

    first : j.tenant < i → is_active_among (take (i + 1) tenants) j ≡ (is_active_among (take i tenants) j || has_active (tenant_at tenants i) j)
    first lt =
        ap (λ (s : Standing). has_job s.tenancy.owner.place s.row.active j) (get_or-take (i + 1) tenants j.tenant no_tenant (omega (arith, lt)) ∙ sym (get_or-take i tenants j.tenant no_tenant lt))
        ∙ or_false (is_active_among (take i tenants) j)
        ∙ ap (λ b. is_active_among (take i tenants) j || b) (sym (other_job (tenant_at tenants i).tenancy.owner.place (tenant_at tenants i).row.active j (λ e. absurd (omega (arith, lt, sym (placed i within) ∙ e)))))

-- no job of this tenant is active in a tenant before it
pub none_before : (tenants : List Standing) (i : ℕ) (a : ActiveTask) → ArePlaced tenants → i < length tenants → is_active_among (take i tenants) (job_of (tenant_at tenants i).tenancy.owner.place a) ≡ false
none_before tenants i a placed within =
    ap (λ (s : Standing). has_job s.tenancy.owner.place s.row.active (job_of (tenant_at tenants i).tenancy.owner.place a))
    (get_or-eq_default (take i tenants) no_tenant (omega (arith, placed i within, length-take i tenants)))
