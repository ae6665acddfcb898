use Rattle.std.proofs.Common.{length}
use Rattle.rig_config.proofs.reading.+have_different_names.Given as goal

abbrev pub decreases-have_different_names : goal.decreases-have_different_names
decreases-have_different_names l = length l.tenants.now
