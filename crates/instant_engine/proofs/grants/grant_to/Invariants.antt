use Rattle.std.proofs.Common.{◌≡◌, drop, length, map, take}
use Rattle.rig_model.specs.Granted.{granted_by}
use Rattle.instant_engine.specs.cited.Tenants.{roster_among, rows_of}
use Rattle.instant_engine.proofs.grants.grant_to.Given as goal

abbrev pub invariant-loop-i : goal.invariant-loop-i
invariant-loop-i l =
    let bs = (rows_of l.tenants l.place).binds in
    record {
      long : length l.granted ≡ length l.initial.granted;
      many : l.binds ≡ length bs;
      before : take l.first l.granted ≡ take l.first l.initial.granted;
      here : take l.i (drop l.first l.granted) ≡ take l.i (map (granted_by (roster_among l.tenants) (rows_of l.tenants) (rows_of l.tenants) l.place) bs);
    }
