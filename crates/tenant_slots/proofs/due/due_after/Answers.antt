use Rattle.std.proofs.Common.{arith}
use Rattle.tenant_slots.proofs.due.due_after.Goals as goal

pub returns-then-time-next : goal.returns-then-time-next
returns-then-time-next c m at quiet t from before = quiet t (omega (arith, from, c.if-later-time.false)) before

pub returns : goal.returns
returns c m at quiet = (c.next_due.ensures.there m at).quiet
