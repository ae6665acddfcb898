use Rattle.std.proofs.Common.{◌≡◌, take}
use Rattle.tenant_grants.proofs.grants.copied_roster.Given as goal

abbrev pub invariant-loop-name : goal.invariant-loop-name
invariant-loop-name l = l.copies.items ≡ take l.name-index l.name-items
