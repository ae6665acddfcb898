use Rattle.std.proofs.Common.{◌≡◌, ◌<◌, ℕ, length, map, take}
use Rattle.rig_model.specs.Granted.{granted_by}
use Rattle.instant_engine.specs.cited.Tenants.{binds_of, granted_at, roster_among, rows_of}
use Rattle.instant_engine.proofs.grants.grant.Given as goal

abbrev pub invariant-loop-place : goal.invariant-loop-place
invariant-loop-place l = record {
  long : length l.granted ≡ length l.initial.granted;
  first : l.first ≡ binds_of (take l.place l.tenants);
  so_far : (t : ℕ) → t < l.place → granted_at l.tenants t l.granted ≡ map (granted_by (roster_among l.tenants) (rows_of l.tenants) (rows_of l.tenants) t) (rows_of l.tenants t).binds;
}
