use Rattle.std.proofs.Common.{length}
use Rattle.tenant_timelines.proofs.ports.PortLane.drawn.Given as goal

abbrev pub decreases-loop-step : goal.decreases-loop-step
decreases-loop-step l = length l.rest
