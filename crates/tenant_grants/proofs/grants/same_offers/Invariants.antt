use Rattle.std.proofs.Common.{◌≡◌, take}
use Rattle.tenant_grants.proofs.grants.same_offers.Given as goal

abbrev pub invariant-loop-i : goal.invariant-loop-i
invariant-loop-i l = take l.i l.ones.keys ≡ take l.i l.others.keys
