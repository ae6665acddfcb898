use Rattle.rig_config.proofs.Drivers.{one_driver_of}
use Rattle.rig_config.proofs.laws.one_driver.Goals as goal

pub returns : goal.returns
returns c rig k s t kept = one_driver_of rig.tenants k s t kept.writes
