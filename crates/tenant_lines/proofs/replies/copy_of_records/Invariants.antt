use Rattle.std.proofs.Common.{◌≡◌, take}
use Rattle.tenant_lines.proofs.replies.copy_of_records.Given as goal

abbrev pub invariant-loop-record : goal.invariant-loop-record
invariant-loop-record l = l.copy.items ≡ take l.record-index l.records
