use Rattle.std.proofs.Common.{◌≡◌, ◌++◌, map, take}
use Rattle.tenant_grants.specs.declared.rows.Row.TheVariants as row
use Rattle.tenant_grants.specs.inner.Tables.{bind_of}
use Rattle.tenant_grants.proofs.grants.push_binds.Given as goal

abbrev pub invariant-loop-i : goal.invariant-loop-i
invariant-loop-i l = l.rows.items ≡ l.initial.rows.items ++ map (λ e. row.Bind (bind_of e)) (take l.i l.binds.entries)
