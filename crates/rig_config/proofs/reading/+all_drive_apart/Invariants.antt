use Rattle.std.proofs.Common.{length}
use Rattle.rig_config.proofs.reading.+all_drive_apart.Given as goal

abbrev pub decreases-all_drive_apart : goal.decreases-all_drive_apart
decreases-all_drive_apart l = length l.tenants.now
