use Rattle.std.proofs.Common.{◌≡◌, ◌++◌, take}
use Rattle.circular_buffer.specs.Buffer.{buffer}
use Rattle.tenant_trace.proofs.traces.put_copies.Given as goal

abbrev pub invariant-loop-record : goal.invariant-loop-record
invariant-loop-record l = l.ring ≡ buffer (l.initial.ring.items ++ take l.record-index l.records) l.initial.ring.capacity
