use Rattle.std.proofs.Common.{◌≡◌, take}
use Rattle.tenant_grants.proofs.tables.copied_binds.Given as goal

abbrev pub invariant-loop-i : goal.invariant-loop-i
invariant-loop-i l = l.copies.entries ≡ take l.i l.binds.entries
