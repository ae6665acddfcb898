use Rattle.std.proofs.Common.{◌≡◌, ◌≤◌}
use Rattle.std.specs.List.{All}
use Rattle.tenant_state.specs.cited.Halves.{IsFirstHalf}
use Rattle.instant_engine.specs.cited.Halves.{IsReady}
use Rattle.instant_engine.specs.Tenants.{most_of}
use Rattle.instant_engine.specs.cited.Tenants.{binds_of}
use Rattle.instant_engine.proofs.cited.Loops.{AreSteppedTo}
use Rattle.instant_engine.proofs.instants.first_halves.Given as goal

abbrev pub invariant-loop-i : goal.invariant-loop-i
invariant-loop-i l = record {
  halves : AreSteppedTo (λ t. IsFirstHalf l.finished.entries) l.i l.initial.tenants l.tenants;
  ready : All IsReady l.initial.tenants → All IsReady l.tenants;
  fewer : most_of l.tenants ≤ most_of l.initial.tenants;
  binds : binds_of l.tenants ≡ binds_of l.initial.tenants;
}
