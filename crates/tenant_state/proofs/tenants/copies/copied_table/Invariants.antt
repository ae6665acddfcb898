use Rattle.std.proofs.Common.{◌≡◌, take}
use Rattle.tenant_state.proofs.tenants.copies.copied_table.Given as goal

abbrev pub invariant-loop-from : goal.invariant-loop-from
invariant-loop-from l = l.copies.items ≡ take l.from-index l.carried
