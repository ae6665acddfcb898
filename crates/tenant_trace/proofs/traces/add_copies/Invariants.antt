use Rattle.std.proofs.Common.{◌≡◌, ◌++◌, take}
use Rattle.tenant_trace.proofs.traces.add_copies.Given as goal

abbrev pub invariant-loop-record : goal.invariant-loop-record
invariant-loop-record l = l.records.items ≡ l.initial.records.items ++ take l.record-index l.others
