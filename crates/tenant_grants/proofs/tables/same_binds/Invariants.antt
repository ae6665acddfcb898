use Rattle.std.proofs.Common.{◌≡◌, map, take}
use Rattle.tenant_grants.specs.inner.Tables.{bind_of}
use Rattle.tenant_grants.proofs.tables.same_binds.Given as goal

abbrev pub invariant-loop-i : goal.invariant-loop-i
invariant-loop-i l = map bind_of (take l.i l.ones.entries) ≡ map bind_of (take l.i l.others.entries)
