-- How many jobs a host's instant releases, and how many are outstanding after it.
use Rattle.std.proofs.Common.{◌≡◌, ℕ, ◌+◌, ◌-◌, ◌<◌, ◌≤◌, Bool, true, false, cond, not, ℤ, List, [], ◌∷◌, length, map, filter, get_or, Option, Some, None, suc, refl, sym, zero-add, ap, ◌∙◌, subst, arith}
use Rattle.std.specs.Prelude.{is_some}
use Rattle.std.specs.List.{AllByRecursion, sum_by}
use Rattle.std.specs.Option.{option_and_then}
use Rattle.std.proofs.lemmas.Bool.{false≢true}
use Rattle.std.proofs.lemmas.List.{get_or_default}
use Rattle.std.proofs.lemmas.List.Concat.{length-flat_map}
use Rattle.std.proofs.lemmas.List.Sums.{sum_by-cons}
use Rattle.giotto_tasks.proofs.cited.ListLemmas.{all_map, same_filter}
use Rattle.rig_model.specs.config.Roster.{Rig}
use Rattle.rig_model.specs.declared.jobs.JobId.{JobId}
use Rattle.rig_model.specs.Jobs.{job_of}
use Rattle.rig_model.specs.Row.{ActiveTask, Row}
use Rattle.rig_model.specs.Tenancies.{Tenancy}
use Rattle.instant_engine.specs.job_table.Finished.{TableEntry, entry_in, has_result, result_in}
use Rattle.instant_engine.specs.job_table.cited.Finished.{is_entered}
use Rattle.instant_engine.specs.state.Jobs.{released_at}
use Rattle.instant_engine.specs.state.Standing.{Standing, at_rest, most_released, no_tenant}
use Rattle.instant_engine.specs.Tenants.{ArePlaced, most_of, released_from, tenant_at}
use Rattle.instant_engine.specs.cited.Halves.{last_jobs}
use Rattle.instant_engine.specs.cited.Instants.{StandForRows, instant_by}
use Rattle.instant_engine.specs.cited.Tenants.{is_active_among, rows_of}
use Rattle.instant_engine.proofs.cited.AtRest.{same_most}
use Rattle.instant_engine.proofs.cited.Loops.{jobs_of_instant, sums_within}
use Rattle.host_core.specs.HostStanding.{outstanding_from}
use Rattle.host_core.proofs.AtRest.{gathered_at_rest, outstanding_at_rest, rest_twice}
use Rattle.host_core.proofs.HostInstants.{AreReadied, IsNext}
use Rattle.host_core.proofs.HostTables.{has_its_entries}
use Rattle.host_core.proofs.ReleasedTasks.{AreParted, few_of_number, grown_by_number, jobs_of_number, number_of_jobs, parts_of_instant}
use Rattle.host_core.proofs.cited.Outstanding.{counted_from, number_outstanding}

-- sums over tenants that each have grown by no more than this
sums_grown : (f g h : Standing → ℕ) (d : Standing) (xs ys : List Standing) → length xs ≡ length ys → ((t : ℕ) → t < length xs → f (get_or xs t d) ≤ g (get_or ys t d) + h (get_or xs t d))
    → sum_by f xs ≤ sum_by g ys + sum_by h xs
sums_grown f g h d [] ys long each = omega arith
sums_grown f g h d (x ∷ xs) [] long each = absurd (omega (arith, long))
sums_grown f g h d (x ∷ xs) (y ∷ ys) long each =
    omega (
      arith,
      sum_by-cons f x xs,
      sum_by-cons g y ys,
      sum_by-cons h x xs,
      each 0 (omega arith),
      sums_grown f g h d xs ys (omega (arith, long)) (λ t lt. each (suc t) (omega (arith, lt))),
    )

-- an entered job has a result exactly if it had one before
kept_result : (before after : List TableEntry) (j : JobId) (active : Bool) → entry_in after j ≡ cond active (Some (record { id = j; result = result_in before j })) None → is_entered after j ≡ true
    → has_result after j ≡ has_result before j
kept_result before after j true exact entered = ap (λ (o : Option TableEntry). is_some (option_and_then (λ (e : TableEntry). e.result) o)) exact
kept_result before after j false exact entered = absurd (false≢true (sym (ap is_some exact) ∙ entered))

module _ {config : Rig} {clock places : ℕ} {old again : List Standing} {before readied : List TableEntry} (is : AreReadied config clock places old again before readied)
    {frame : List ℤ} {after : List Standing} {behind : List TableEntry} (next : IsNext frame again readied after behind) where
  placed_behind : ArePlaced after
  placed_behind t lt =
      let within : t < length again = omega (arith, lt, next.instants.moved.as_many) in
      ap (λ (y : Tenancy). y.owner.place) (next.instants.moved.each t within).tenancy ∙ is.whole.placed t within

  -- one tenant
  module _ (t : ℕ) (lt : t < length again) where
    abbrev s : Standing
    s = tenant_at again t

    abbrev a : Standing
    a = tenant_at after t

    within : t < length after
    within = omega (arith, lt, next.instants.moved.as_many)

    counts : s.row.next_tick ≡ clock
    counts = (is.whole.known t no_tenant lt).0

    counts_behind : a.row.next_tick ≡ clock + 1
    counts_behind = (next.instants.moved.each t lt).next_tick ∙ ap (λ n. n + 1) counts

    tenancy : a.tenancy ≡ s.tenancy
    tenancy = (next.instants.moved.each t lt).tenancy

    parts : AreParted clock (most_released s.row) s.row.active a.row.active
    parts =
        let own : StandForRows again (rows_of again) = λ u below k. record (rows_of again u) { records = sym (is.whole.known u no_tenant below).1.known.few_records k } in
        let i = instant_by again frame readied (rows_of again) t in
        subst (λ n. AreParted n (most_released s.row) s.row.active a.row.active) counts
        (subst (AreParted s.row.next_tick (most_released s.row) s.row.active) (sym (ap (λ (r : Row). r.active) (next.instants.step (rows_of again) own t lt)))
        (parts_of_instant i s.row))

    its_last : last_jobs a ≡ released_at a.tenancy.owner.place clock a.row
    its_last = let last : a.row.next_tick - 1 ≡ clock = omega (arith, counts_behind) in ap (λ n. released_at a.tenancy.owner.place n a.row) last

    few_last : length (last_jobs a) ≤ most_released s.row
    few_last =
        let early = subst (λ n. AllByRecursion (λ (a : ActiveTask). a.release < n) s.row.active) counts (is.whole.known t no_tenant lt).1.known.early in
        omega (arith, ap length its_last, jobs_of_number a.tenancy.owner.place clock a.row, few_of_number parts early)

    -- its active tasks have the results that came before
    same_open : number_outstanding behind a ≡ length (filter (λ x. not (has_result readied (job_of s.tenancy.owner.place x))) a.row.active)
    same_open =
        let place = a.tenancy.owner.place in
        ap length
        (same_filter (λ x. not (has_result behind (job_of place x))) (λ x. not (has_result readied (job_of place x))) a.row.active
        (all_map (λ x. is_entered behind (job_of place x) ≡ true) (λ x. not (has_result behind (job_of place x)) ≡ not (has_result readied (job_of place x))) a.row.active
        (λ x entered. ap not (kept_result readied behind (job_of place x) (is_active_among after (job_of place x)) (next.exact (job_of place x)) entered))
        (has_its_entries after behind t a within (sym (get_or_default after t a no_tenant within)) placed_behind next.table)))
        ∙ ap (λ (y : Tenancy). length (filter (λ x. not (has_result readied (job_of y.owner.place x))) a.row.active)) tenancy

    grown : number_outstanding behind a ≤ number_outstanding readied s + length (last_jobs a)
    grown =
        omega (
          arith,
          same_open,
          grown_by_number parts (λ x. not (has_result readied (job_of s.tenancy.owner.place x))),
          number_of_jobs a.tenancy.owner.place clock a.row (next.instants.moved.each t lt).between.known.tasks,
          ap length its_last,
        )

  -- all tenants
  last_of_all : length (released_from clock 0 after) ≡ sum_by (λ s. length (last_jobs s)) after
  last_of_all =
      ap length (sym (jobs_of_instant clock 0 after (λ t lt. placed_behind t lt ∙ sym (zero-add t)) (λ t lt. counts_behind t (omega (arith, lt, next.instants.moved.as_many)))))
      ∙ length-flat_map last_jobs after

  outside : released_from clock 0 (map at_rest after) ≡ released_from clock 0 after
  outside = gathered_at_rest _ (λ k s. refl) 0 after

  pub few_released : length (released_from clock 0 (map at_rest after)) ≤ most_of (map at_rest old)
  few_released =
      omega (
        arith,
        ap length outside,
        last_of_all,
        sums_within (λ s. length (last_jobs s)) (λ (s : Standing). most_released s.row) no_tenant no_tenant after again next.instants.moved.as_many
            (λ t lt. few_last t (omega (arith, lt, next.instants.moved.as_many))),
        same_most (map at_rest old) again (is.rest ∙ sym (rest_twice old)),
      )

  pub outstanding_grown : length (outstanding_from behind 0 (map at_rest after)) ≤ length (outstanding_from before 0 (map at_rest old)) + length (released_from clock 0 (map at_rest after))
  outstanding_grown =
      let was : length (outstanding_from before 0 (map at_rest old)) ≡ length (outstanding_from readied 0 again) =
      (λ k. length (outstanding_from (sym is.same k) 0 (sym is.rest k))) ∙ ap length (outstanding_at_rest readied again) in
      omega (
        arith,
        ap length (outstanding_at_rest behind after),
        counted_from behind 0 after,
        sums_grown (number_outstanding behind) (number_outstanding readied) (λ s. length (last_jobs s)) no_tenant after again next.instants.moved.as_many
            (λ t lt. grown t (omega (arith, lt, next.instants.moved.as_many))),
        counted_from readied 0 again,
        was,
        last_of_all,
        ap length outside,
      )
