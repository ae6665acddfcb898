use Rattle.std.proofs.Common.{◌≡◌, ◌≤◌, drop, take}
use Rattle.instant_engine.specs.Tenants.{most_of}
use Rattle.instant_engine.specs.cited.Tenants.{binds_of}
use Rattle.instant_engine.proofs.Entered.{AreEnteredTo}
use Rattle.instant_engine.proofs.cited.Loops.{AreSecondHalvesTo}
use Rattle.instant_engine.proofs.instants.second_halves.Given as goal

abbrev pub invariant-loop-i : goal.invariant-loop-i
invariant-loop-i l = record {
  first : l.first ≡ binds_of (take l.i l.initial.tenants);
  same : l.granted ≡ l.initial.granted;
  halves : AreSecondHalvesTo l.frame l.initial.granted l.i l.initial.tenants l.tenants;
  space : most_of (drop l.i l.initial.tenants) ≤ l.finished.room;
  entered : AreEnteredTo l.i l.initial.tenants l.tenants l.initial.finished.entries l.finished.entries;
}
