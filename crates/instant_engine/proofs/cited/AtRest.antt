-- Tenants that are the same at rest: they differ only in what they have ready for the next instant.
use Rattle.std.proofs.Common.{◌≡◌, ℕ, ◌≤◌, ◌++◌, ℤ, false, List, [], ◌∷◌, length, map, get_or, set, refl, sym, ap, subst, ◌∙◌, arith}
use Rattle.std.specs.Prelude.{sum}
use Rattle.std.specs.List.{flat_map}
use Rattle.std.proofs.Math.ListN as lists
use Rattle.std.proofs.Math.Seq.{map-set_same}
use Rattle.std.proofs.lemmas.List.{length-map}
use Rattle.std.proofs.lemmas.List.Sums.{sum-map}
use Rattle.std.proofs.lemmas.Simd.{map-map}
use Rattle.rig_model.specs.declared.jobs.JobId.{JobId}
use Rattle.tenant_state.specs.job_table.Finished.{TableEntry}
use Rattle.rig_model.specs.Jobs.{has_job}
use Rattle.tenant_state.specs.Standing.{Standing, IsKnown, with_last, at_rest, most_released, no_tenant}
use Rattle.rig_model.specs.Instants.{after_instant}
use Rattle.tenant_state.specs.cited.Standing.{HasItsResults}
use Rattle.instant_engine.specs.Tenants.{most_of, tenant_at}
use Rattle.instant_engine.specs.cited.Halves.{last_jobs}
use Rattle.instant_engine.specs.cited.Instants.{AreInstants, IsBetween, instant_by}
use Rattle.instant_engine.specs.cited.Tables.{IsTaskTable}
use Rattle.instant_engine.specs.cited.Tenants.{is_active_among}

pub same_length : (xs ys : List Standing) → map at_rest ys ≡ map at_rest xs → length ys ≡ length xs
same_length xs ys same = sym (length-map ys at_rest) ∙ ap length same ∙ length-map xs at_rest

pub readied : (xs ys : List Standing) (i : ℕ) (d s : Standing) → map at_rest xs ≡ map at_rest ys → s.tenancy ≡ (get_or xs i d).tenancy → s.row ≡ (get_or xs i d).row → s.ready.ended ≡ (get_or xs i d).ready.ended
    → map at_rest (set xs i s) ≡ map at_rest ys
readied xs ys i d s same own row ended =
    map-set_same at_rest xs i s d (λ k. record { tenancy = own k; row = row k; ready = record { ended = ended k; room = 0; shared = false } }) ∙ same

-- the most jobs of all
most_at_rest : (xs : List Standing) → most_of (map at_rest xs) ≡ most_of xs
most_at_rest xs = let most : Standing → ℕ = λ s. most_released s.row in sym (sum-map most (map at_rest xs)) ∙ (ap sum (map-map most at_rest xs) ∙ sum-map most xs)

pub same_most : (xs ys : List Standing) → map at_rest ys ≡ map at_rest xs → most_of ys ≡ most_of xs
same_most xs ys same = sym (most_at_rest ys) ∙ (ap most_of same ∙ most_at_rest xs)

-- each tenant is the same at rest
pub same_at_rest : (xs ys : List Standing) (k : ℕ) (d : Standing) → map at_rest ys ≡ map at_rest xs → at_rest (get_or ys k d) ≡ at_rest (get_or xs k d)
same_at_rest xs ys k d same = sym (lists.get_or-map at_rest ys k d) ∙ ap (λ zs. get_or zs k (at_rest d)) same ∙ lists.get_or-map at_rest xs k d

pub between_at_rest : (x y : Standing) → at_rest y ≡ at_rest x → IsBetween x → IsBetween y
between_at_rest x y e is = record {
  known = subst (λ (s : Standing). IsKnown s.tenancy s.row) (sym e) is.known;
  binds = subst (λ (s : Standing). length s.row.binds ≤ s.tenancy.owner.most_binds) (sym e) is.binds;
  rest = ap (λ (s : Standing). s.ready.ended) e ∙ is.rest;
}

-- the same tasks are active, and have the same table
pub active_at_rest : (xs ys : List Standing) → map at_rest ys ≡ map at_rest xs → (j : JobId) → is_active_among ys j ≡ is_active_among xs j
active_at_rest xs ys same j = ap (λ (s : Standing). has_job s.tenancy.owner.place s.row.active j) (same_at_rest xs ys j.tenant no_tenant same)

pub table_at_rest : (entries : List TableEntry) (xs ys : List Standing) → map at_rest ys ≡ map at_rest xs → IsTaskTable xs entries → IsTaskTable ys entries
table_at_rest entries xs ys same table = record {
  entered = λ j. table.entered j ∙ sym (active_at_rest xs ys same j);
  results = λ k d lt. subst (λ (s : Standing). HasItsResults s entries) (sym (same_at_rest xs ys k d same)) (table.results k d (omega (arith, lt, same_length xs ys same)));
}

-- they went through the same instant
pub instants_at_rest : (frame : List ℤ) (entries : List TableEntry) (before xs ys : List Standing) → map at_rest ys ≡ map at_rest xs → AreInstants frame entries before xs → AreInstants frame entries before ys
instants_at_rest frame entries before xs ys same is = record {
  moved = record {
    as_many = same_length xs ys same ∙ is.moved.as_many;
    each = λ t lt.
        let e = same_at_rest xs ys t no_tenant same in
        let one = is.moved.each t lt in
        record {
          next_tick = ap (λ (s : Standing). s.row.next_tick) e ∙ one.next_tick;
          tenancy = ap (λ (s : Standing). s.tenancy) e ∙ one.tenancy;
          between = between_at_rest (tenant_at xs t) (tenant_at ys t) e one.between;
        };
  };
  step = λ rows stand t lt.
      let e = same_at_rest xs ys t no_tenant same in
      ap (λ (s : Standing). s.row) e ∙ is.step rows stand t lt ∙ ap (λ (s : Standing). with_last s.tenancy.budgets.trace (after_instant (instant_by before frame entries rows t) (rows t))) (sym e);
}

-- their last jobs are the same
jobs_at_rest : (xs : List Standing) → flat_map last_jobs (map at_rest xs) ≡ flat_map last_jobs xs
jobs_at_rest [] = refl
jobs_at_rest (x ∷ xs) = ap (λ js. last_jobs x ++ js) (jobs_at_rest xs)

pub same_jobs : (xs ys : List Standing) → map at_rest ys ≡ map at_rest xs → flat_map last_jobs ys ≡ flat_map last_jobs xs
same_jobs xs ys same = sym (jobs_at_rest ys) ∙ ap (flat_map last_jobs) same ∙ jobs_at_rest xs
