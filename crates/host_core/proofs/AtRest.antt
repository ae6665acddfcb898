-- Tenants that are the same at rest: they differ only in what they have ready for the next instant.
use Rattle.std.proofs.Common.{◌≡◌, ℕ, ◌+◌, ◌<◌, List, [], ◌∷◌, ◌++◌, length, map, get_or, Option, Some, None, refl, sym, ap, ◌∙◌, arith}
use Rattle.std.specs.Prelude.{slice_get}
use Rattle.std.specs.Option.{option_and_then, option_map}
use Rattle.std.specs.List.{All, flat_map, enumerate_from}
use Rattle.std.proofs.lemmas.List.{get_or_default}
use Rattle.std.proofs.lemmas.Option.{slice_get-get_or, slice_get-map}
use Rattle.rig_model.specs.declared.jobs.JobId.{JobId}
use Rattle.instant_engine.specs.Tenants.{ArePlaced, tenant_at}
use Rattle.instant_engine.proofs.cited.AtRest.{between_at_rest, same_at_rest, same_length, table_at_rest}
use Rattle.host_core.specs.HostStanding.{HostStanding, Stands, awaited_in, outstanding_from, outstanding_of}
use Rattle.host_core.specs.inner.HostStanding.{IsAt, IsWhole}
use Rattle.rig_model.specs.HostState.{HostState, row_at}
use Rattle.host_core.specs.declared.hosts.Host.TheInside.{Inside}
use Rattle.rig_model.specs.Base.{Setting}
use Rattle.instant_engine.specs.job_table.Finished.{TableEntry}
use Rattle.rig_model.specs.Jobs.{job_of}
use Rattle.instant_engine.specs.state.Standing.{Standing, with_last, at_rest, no_tenant, outstanding_tasks, awaited_job}
use Rattle.rig_model.specs.config.Roster.{Rig}

-- a host as its code has it
abbrev pub standing : Inside → HostStanding
standing h = record { config = h.config; tenants = h.tenants.items; entries = h.finished.entries; clock = h.clock }

pub rest_twice : (xs : List Standing) → map at_rest (map at_rest xs) ≡ map at_rest xs
rest_twice [] = refl
rest_twice (x ∷ xs) = ap (λ ys. at_rest x ∷ ys) (rest_twice xs)

is_at_rest : (n : ℕ) (x y : Standing) → at_rest y ≡ at_rest x → IsAt n x → IsAt n y
is_at_rest n x y e is = (ap (λ (s : Standing). s.row.next_tick) e ∙ is.0, between_at_rest x y e is.1)

all_at_rest : (n : ℕ) (xs ys : List Standing) → map at_rest ys ≡ map at_rest xs → All (IsAt n) xs → All (IsAt n) ys
all_at_rest n xs ys same all k d lt = is_at_rest n (get_or xs k d) (get_or ys k d) (same_at_rest xs ys k d same) (all k d (omega (arith, lt, same_length xs ys same)))

placed_at_rest : (xs ys : List Standing) → map at_rest ys ≡ map at_rest xs → ArePlaced xs → ArePlaced ys
placed_at_rest xs ys same placed t lt =
    ap (λ (s : Standing). s.tenancy.owner.place) (same_at_rest xs ys t no_tenant same) ∙ placed t (omega (arith, lt, same_length xs ys same))

-- what is known of a host stays true if its tenants change only in what they have ready
pub kept_at_rest : {config : Rig} {n : ℕ} {entries : List TableEntry} (xs ys : List Standing) → map at_rest ys ≡ map at_rest xs → IsWhole config n xs entries → IsWhole config n ys entries
kept_at_rest {n = n} {entries = entries} xs ys same whole = record {
  as_many = same_length xs ys same ∙ whole.as_many;
  known = all_at_rest n xs ys same whole.known;
  placed = placed_at_rest xs ys same whole.placed;
  tenancies = λ t lt. ap (λ (s : Standing). s.tenancy) (same_at_rest xs ys t no_tenant same) ∙ whole.tenancies t (omega (arith, lt, same_length xs ys same));
  table = table_at_rest entries xs ys same whole.table;
}

pub stands_at_rest : (setting : Setting) (host : HostStanding) (state : HostState) (ys : List Standing) → map at_rest ys ≡ map at_rest host.tenants
    → Stands setting host state → Stands setting (record host { tenants = ys }) state
stands_at_rest setting host state ys same stands = record {
  same_config = stands.same_config;
  same_clock = stands.same_clock;
  as_many = same_length host.tenants ys same ∙ stands.as_many;
  all_rows = stands.all_rows;
  placed = placed_at_rest host.tenants ys same stands.placed;
  each = λ t lt. ap (λ (s : Standing). s.row) (same_at_rest host.tenants ys t no_tenant same) ∙ stands.each t lt
      ∙ ap (λ (s : Standing). with_last s.tenancy.budgets.trace (row_at state t)) (sym (same_at_rest host.tenants ys t no_tenant same));
  counts = stands.counts;
  results = stands.results;
}

-- a host's fields represent the same states as its view
pub stands_inside : (setting : Setting) (host : HostStanding) (state : HostState) → Stands setting (record host { tenants = map at_rest host.tenants }) state → Stands setting host state
stands_inside setting host state stands = stands_at_rest setting (record host { tenants = map at_rest host.tenants }) state host.tenants (sym (rest_twice host.tenants)) stands

pub stands_outside : (setting : Setting) (host : HostStanding) (state : HostState) → Stands setting host state → Stands setting (record host { tenants = map at_rest host.tenants }) state
stands_outside setting host state stands = stands_at_rest setting host state (map at_rest host.tenants) (rest_twice host.tenants) stands

-- what is gathered from the tenants is the same at rest
pub gathered_at_rest : {C : Type 0} (f : ℕ × Standing → List C) → ((k : ℕ) (s : Standing) → f (k, at_rest s) ≡ f (k, s)) → (n : ℕ) (xs : List Standing)
    → flat_map f (enumerate_from n (map at_rest xs)) ≡ flat_map f (enumerate_from n xs)
gathered_at_rest f same n [] = refl
gathered_at_rest f same n (x ∷ xs) = ap (λ ys. ys ++ flat_map f (enumerate_from (n + 1) (map at_rest xs))) (same n x) ∙ ap (λ ys. f (n, x) ++ ys) (gathered_at_rest f same (n + 1) xs)

pub outstanding_at_rest : (entries : List TableEntry) (xs : List Standing) → outstanding_from entries 0 (map at_rest xs) ≡ outstanding_from entries 0 xs
outstanding_at_rest entries xs = gathered_at_rest _ (λ k s. refl) 0 xs

pub outstanding_at_rest_of : (host : HostStanding) (t : ℕ) → outstanding_of (record host { tenants = map at_rest host.tenants }) t ≡ outstanding_of host t
outstanding_at_rest_of host t = ap (λ (s : Standing). map (job_of t) (outstanding_tasks s host.entries)) (same_at_rest host.tenants (map at_rest host.tenants) t no_tenant (rest_twice host.tenants))

-- the job that the host awaits under a name is the one that its tenant awaits
pub awaited_here : (entries : List TableEntry) (xs : List Standing) (j : JobId) (x : Standing) → j.tenant < length xs → x ≡ get_or xs j.tenant x
    → option_and_then (λ s. awaited_job s entries j) (slice_get (map at_rest xs) j.tenant) ≡ awaited_job x entries j
awaited_here entries xs j x lt here =
    ap (λ o. option_and_then (λ s. awaited_job s entries j) o) (slice_get-map at_rest xs j.tenant ∙ ap (option_map at_rest) (slice_get-get_or xs j.tenant x lt ∙ ap Some (sym here)))

pub awaited_at_rest : (host : HostStanding) (j : JobId) → awaited_in (record host { tenants = map at_rest host.tenants }) j ≡ awaited_in host j
awaited_at_rest host j = ap (λ o. option_and_then (λ s. awaited_job s host.entries j) o) (slice_get-map at_rest host.tenants j.tenant) ∙ by (slice_get host.tenants j.tenant)
  where
    by : (o : Option Standing) → option_and_then (λ s. awaited_job s host.entries j) (option_map at_rest o) ≡ option_and_then (λ s. awaited_job s host.entries j) o
    by None = refl
    by (Some s) = refl

-- a tenant at rest, as the host's view has it
pub here_at_rest : (host view : HostStanding) (t : ℕ) (x : Standing) → record host { tenants = map at_rest host.tenants } ≡ view → t < length host.tenants → x ≡ get_or host.tenants t x
    → at_rest (tenant_at view.tenants t) ≡ at_rest x
here_at_rest host view t x is lt here =
    ap (λ (h : HostStanding). at_rest (tenant_at h.tenants t)) (sym is)
    ∙ (same_at_rest host.tenants (map at_rest host.tenants) t no_tenant (rest_twice host.tenants)
    ∙ ap at_rest (sym (here ∙ get_or_default host.tenants t x no_tenant lt)))
