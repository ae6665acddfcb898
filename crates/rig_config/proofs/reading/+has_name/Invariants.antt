use Rattle.std.proofs.Common.{length}
use Rattle.rig_config.proofs.reading.+has_name.Given as goal

abbrev pub decreases-has_name : goal.decreases-has_name
decreases-has_name l = length l.tenants.now
