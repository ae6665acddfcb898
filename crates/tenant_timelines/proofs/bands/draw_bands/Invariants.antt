use Rattle.std.proofs.Common.{length}
use Rattle.tenant_timelines.proofs.bands.draw_bands.Given as goal

abbrev pub decreases-loop-band : goal.decreases-loop-band
decreases-loop-band l = length l.rest
