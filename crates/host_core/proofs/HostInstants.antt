-- What a host keeps and represents after an instant, if its tenants were made ready before.
use Rattle.std.proofs.Common.{◌≡◌, ℕ, ◌+◌, ◌-◌, ◌<◌, ◌≤◌, ◌^◌, ⊎_elim, cond, ℤ, Option, List, [], ◌∷◌, ◌++◌, length, map, take, drop, get_or, Some, None, refl, sym, ap, ◌∙◌, subst, arith}
use Rattle.std.specs.List.{All}
use Rattle.std.specs.Option.{option_map_or}
use Rattle.std.proofs.Math.ListN.{get_or-eq_default}
use Rattle.std.proofs.lemmas.Bool.{cases_lt}
use Rattle.std.proofs.lemmas.List.{get_or_default, length-map}
use Rattle.std.proofs.lemmas.Option.{slice_get-get_or}
use Rattle.rig_model.specs.declared.jobs.JobId.{JobId}
use Rattle.instant_engine.specs.job_table.Finished.{TableEntry, entry_in, result_in}
use Rattle.rig_model.specs.Tenancies.{Tenancy, roster_of}
use Rattle.instant_engine.specs.state.Standing.{Standing, at_rest, no_tenant}
use Rattle.instant_engine.specs.cited.Instants.{AreInstants}
use Rattle.instant_engine.specs.cited.Tables.{IsTaskTable}
use Rattle.instant_engine.specs.Tenants.{tenant_at}
use Rattle.instant_engine.specs.cited.Tenants.{HaveRoster, binds_of, is_active_among, roster_among}
use Rattle.rig_model.specs.declared.events.Event.TheVariants.{Tick}
use Rattle.rig_model.specs.Host.{after_event}
use Rattle.rig_model.specs.HostState.{HostState}
use Rattle.host_core.specs.HostStanding.{HostStanding, Stands}
use Rattle.host_core.specs.inner.HostStanding.{IsAt, IsWhole, most_binds}
use Rattle.rig_model.specs.Base.{Setting}
use Rattle.instant_engine.proofs.cited.AtRest.{same_length}
use Rattle.instant_engine.proofs.cited.Loops.{sums_within}
use Rattle.host_core.proofs.AtRest.{kept_at_rest, stands_at_rest, stands_inside, stands_outside}
use Rattle.host_core.proofs.HostSteps.{stands_after_tick}
use Rattle.rig_model.specs.config.Roster.{Rig, budgets_at, no_budgets}
use Rattle.rig_model.specs.declared.config.Budgets.{Budgets}
use Rattle.rig_model.specs.declared.config.TenantConfig.{TenantConfig}
use Rattle.instant_engine.proofs.of_laws.Places.{nobody}

take_front : {X : Type 0} (xs ys : List X) → take (length xs) (xs ++ ys) ≡ xs
take_front [] ys = refl
take_front (x ∷ xs) ys = ap (λ zs. x ∷ zs) (take_front xs ys)

-- a list that is overwritten by one of its length
pub written_over : {X : Type 0} (n : ℕ) (old new : List X) → length new ≡ n → take n (new ++ drop (length new) old) ≡ new
written_over n old new e = ap (λ k. take k (new ++ drop (length new) old)) (sym e) ∙ take_front new (drop (length new) old)

-- the budgets of a tenant of the roster
budgets_there : (config : Rig) (t : ℕ) → t < length config.tenants → budgets_at config t ≡ (get_or config.tenants t nobody).budgets
budgets_there config t lt = ap (λ o. option_map_or (λ (tenant : TenantConfig). tenant.budgets) o no_budgets) (slice_get-get_or config.tenants t nobody lt)

-- all tenants of a host have its roster, and no more binds than they may have
module _ (config : Rig) (clock : ℕ) (tenants : List Standing) (entries : List TableEntry) (whole : IsWhole config clock tenants entries) where
  its_roster : (t : ℕ) → t < length tenants → (tenant_at tenants t).tenancy.owner.roster ≡ roster_of config
  its_roster t lt = ap (λ (y : Tenancy). y.owner.roster) (whole.tenancies t lt)

  among : 0 < length tenants → roster_among tenants ≡ roster_of config
  among some = its_roster 0 some

  pub have_roster : HaveRoster tenants
  have_roster = record {
    same = λ t lt. its_roster t lt ∙ sym (among (omega (arith, lt)));
    whole = ⊎_elim
        (λ some. ap length (among some) ∙ (length-map config.tenants (λ (tenant : TenantConfig). tenant.name) ∙ sym whole.as_many))
        (λ none. ap (λ (s : Standing). length s.tenancy.owner.roster) (get_or-eq_default tenants no_tenant none) ∙ omega (arith, none))
        (cases_lt 0 (length tenants));
  }

  pub binds_fit : binds_of tenants ≤ most_binds config
  binds_fit =
      sums_within (λ (s : Standing). length s.row.binds) (λ (tenant : TenantConfig). tenant.budgets.binds) no_tenant nobody tenants config.tenants whole.as_many
      (λ t lt. omega (
        arith,
        (whole.known t no_tenant lt).1.binds,
        ap (λ (y : Tenancy). y.owner.most_binds) (whole.tenancies t lt),
        ap (λ (b : Budgets). b.binds) (budgets_there config t (omega (arith, lt, whole.as_many))),
      ))

-- the tenants of a host that were made ready, read again through a slice
pub record AreReadied (config : Rig) (clock places : ℕ) (old again : List Standing) (before readied : List TableEntry) : Type 0 where
  pub whole : IsWhole config clock again readied
  pub rest : map at_rest again ≡ map at_rest old
  pub long : length again ≡ places
  pub same : readied ≡ before

-- they are overwritten by as many that are the same at rest
pub are_readied : (config : Rig) (clock places : ℕ) (old slice ready : List Standing) (before readied : List TableEntry) → slice ≡ old → length slice ≡ places → map at_rest ready ≡ map at_rest slice → readied ≡ before
    → IsWhole config clock old before → AreReadied config clock places old (take places (ready ++ drop (length ready) old)) before readied
are_readied config clock places old slice ready before readied value long rest same whole =
    let many : length ready ≡ places = same_length slice ready rest ∙ long in
    let at_ready : map at_rest ready ≡ map at_rest old = rest ∙ ap (map at_rest) value in
    subst (λ xs. AreReadied config clock places old xs before readied) (sym (written_over places old ready many)) (record {
      whole = subst (IsWhole config clock ready) (sym same) (kept_at_rest old ready at_ready whole);
      rest = at_ready;
      long = many;
      same = same;
    })

-- tenants and their table after an instant
pub record IsNext (frame : List ℤ) (again : List Standing) (readied : List TableEntry) (tenants : List Standing) (entries : List TableEntry) : Type 0 where
  pub instants : AreInstants frame readied again tenants
  pub table : IsTaskTable tenants entries
  pub exact : (j : JobId) → entry_in entries j ≡ cond (is_active_among tenants j) (Some (record { id = j; result = result_in readied j })) None

module _ {config : Rig} {clock places : ℕ} {old again : List Standing} {before readied : List TableEntry} (is : AreReadied config clock places old again before readied) where
  pub rosters_again : HaveRoster again
  rosters_again = have_roster config clock again readied is.whole

  pub places_again : (granted : List (Option ℤ)) → most_binds config ≤ length granted → binds_of again ≤ length granted
  places_again granted room = omega (arith, room, binds_fit config clock again readied is.whole)

  pub counts_again : clock < 2 ^ 64 - 1 → All (λ (s : Standing). s.row.next_tick < 2 ^ 64 - 1) again
  counts_again below k d lt = subst (λ n. n < 2 ^ 64 - 1) (sym (is.whole.known k d lt).0) below

  -- what an instant made of them overwrites the others
  pub written_behind : (frame : List ℤ) (after others : List Standing) → AreInstants frame readied again after → take places (after ++ drop (length after) others) ≡ after
  written_behind frame after others instants = written_over places others after (instants.moved.as_many ∙ is.long)

  pub next_written : (frame : List ℤ) (after others : List Standing) (behind : List TableEntry) → IsNext frame again readied after behind → IsNext frame again readied (take places (after ++ drop (length after) others)) behind
  next_written frame after others behind next = subst (λ xs. IsNext frame again readied xs behind) (sym (written_behind frame after others next.instants)) next

  module _ (frame : List ℤ) (after : List Standing) (behind : List TableEntry) (next : IsNext frame again readied after behind) where
    pub whole_behind : IsWhole config (clock + 1) after behind
    whole_behind = record {
      as_many = next.instants.moved.as_many ∙ is.whole.as_many;
      known = λ k d lt. subst (IsAt (clock + 1)) (sym (get_or_default after k d no_tenant lt)) (at k (omega (arith, lt, next.instants.moved.as_many)));
      placed = λ t lt. let within : t < length again = omega (arith, lt, next.instants.moved.as_many) in ap (λ (y : Tenancy). y.owner.place) (next.instants.moved.each t within).tenancy ∙ is.whole.placed t within;
      tenancies = λ t lt. let within : t < length again = omega (arith, lt, next.instants.moved.as_many) in (next.instants.moved.each t within).tenancy ∙ is.whole.tenancies t within;
      table = next.table;
    }
      where
        at : (k : ℕ) → k < length again → IsAt (clock + 1) (tenant_at after k)
        at k lt = ((next.instants.moved.each k lt).next_tick ∙ ap (λ n. n + 1) (is.whole.known k no_tenant lt).0, (next.instants.moved.each k lt).between)

    pub stands_behind : (setting : Setting) (state : HostState) → Stands setting (record { config = config; tenants = map at_rest old; entries = before; clock = clock }) state
        → Stands setting (record { config = config; tenants = map at_rest after; entries = behind; clock = clock + 1 }) (after_event setting state (Tick frame))
    stands_behind setting state view =
        let host : HostStanding = record { config = config; tenants = old; entries = before; clock = clock } in
        let at_ready : Stands setting (record host { tenants = again }) state = stands_at_rest setting host state again is.rest (stands_inside setting host state view) in
        let with_entries : Stands setting (record host { tenants = again; entries = readied }) state =
        subst (λ (es : List TableEntry). Stands setting (record host { tenants = again; entries = es }) state) (sym is.same) at_ready in
        stands_outside setting (record { config = config; tenants = after; entries = behind; clock = clock + 1 }) (after_event setting state (Tick frame))
        (stands_after_tick setting (record host { tenants = again; entries = readied }) state frame after behind with_entries is.whole.placed is.whole.tenancies next.instants next.exact)
