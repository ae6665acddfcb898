use Rattle.std.proofs.Common.{◌≡◌, map, take}
use Rattle.std.specs.List.{AllWithin}
use Rattle.instant_engine.specs.cited.Halves.{IsReady}
use Rattle.instant_engine.specs.Tenants.{most_of}
use Rattle.tenant_state.specs.Standing.{at_rest}
use Rattle.instant_engine.proofs.instants.ready.Given as goal

abbrev pub invariant-loop-i : goal.invariant-loop-i
invariant-loop-i l = record {
  rest : map at_rest l.tenants ≡ map at_rest l.initial.tenants;
  ready : AllWithin IsReady l.tenants 0 l.i;
  most : l.most ≡ most_of (take l.i l.tenants);
}
