use Rattle.std.proofs.Common.{◌≡◌, take}
use Rattle.tenant_grants.proofs.grants.copied_offers.Given as goal

abbrev pub invariant-loop-place : goal.invariant-loop-place
invariant-loop-place l = l.copies.keys ≡ take l.place l.offers.keys
