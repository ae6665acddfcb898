use Rattle.std.proofs.Common.{◌≡◌, map, take}
use Rattle.host_core.specs.SameHosts.{compared}
use Rattle.host_core.proofs.same.same_tenants.Given as goal

abbrev pub invariant-loop-i : goal.invariant-loop-i
invariant-loop-i l = map compared (take l.i l.ones) ≡ map compared (take l.i l.others)
