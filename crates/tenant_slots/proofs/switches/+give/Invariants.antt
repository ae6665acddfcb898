use Rattle.std.proofs.Common.{length}
use Rattle.tenant_slots.proofs.switches.+give.Given as goal

abbrev pub decreases-give : goal.decreases-give
decreases-give l = length l.destinations.now
