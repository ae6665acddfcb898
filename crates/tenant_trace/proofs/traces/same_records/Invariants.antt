use Rattle.std.proofs.Common.{◌≡◌, take}
use Rattle.tenant_trace.proofs.traces.same_records.Given as goal

abbrev pub invariant-loop-i : goal.invariant-loop-i
invariant-loop-i l = take l.i l.ones.items ≡ take l.i l.others.items
