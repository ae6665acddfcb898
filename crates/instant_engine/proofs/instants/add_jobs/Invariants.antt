use Rattle.std.proofs.Common.{◌≡◌, ℕ, ◌≤◌, ◌++◌, length, map, take, drop}
use Rattle.std.specs.List.{flat_map, sum_by}
use Rattle.tenant_state.specs.Standing.{Standing, at_rest}
use Rattle.instant_engine.specs.Tenants.{tenant_at}
use Rattle.instant_engine.specs.cited.Halves.{last_jobs}
use Rattle.instant_engine.proofs.instants.add_jobs.Given as goal

abbrev pub invariant-loop-i : goal.invariant-loop-i
invariant-loop-i l = record {
  rest : map at_rest l.tenants ≡ map at_rest l.initial.tenants;
  others : (t : ℕ) → l.i ≤ t → tenant_at l.tenants t ≡ tenant_at l.initial.tenants t;
  room : sum_by (λ (s : Standing). length (last_jobs s)) (drop l.i l.initial.tenants) ≤ l.jobs.room;
  jobs : l.jobs.jobs ≡ l.initial.jobs.jobs ++ flat_map last_jobs (take l.i l.initial.tenants);
}
