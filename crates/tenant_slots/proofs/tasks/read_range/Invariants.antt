use Rattle.std.proofs.Common.{◌≡◌, take, drop}
use Rattle.tenant_slots.proofs.tasks.read_range.Given as goal

abbrev pub invariant-loop-i : goal.invariant-loop-i
invariant-loop-i l = l.taken ≡ take l.i (drop l.first l.values)
