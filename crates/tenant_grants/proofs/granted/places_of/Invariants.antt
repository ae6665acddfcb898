use Rattle.std.proofs.Common.{◌≡◌, take}
use Rattle.tenant_grants.proofs.granted.places_of.Given as goal

abbrev pub invariant-loop-value : goal.invariant-loop-value
invariant-loop-value l = l.places.items ≡ take l.value-index l.fn.granted
