use Rattle.std.proofs.Common.{refl}
use Rattle.config_checks.proofs.faulty_plant.Goals as goal

pub returns : goal.returns
returns c = rw (c.requires.config, c.requires.plant, c.refused.ensures) (refl, (c.in_ok-finding.finding, c.in_ok-finding.ensures, c.in_ok-told.ensures))
