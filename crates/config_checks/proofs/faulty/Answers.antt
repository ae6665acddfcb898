use Rattle.std.proofs.Common.{refl}
use Rattle.config_checks.proofs.faulty.Goals as goal

pub returns : goal.returns
returns c = rw (c.requires, c.refused.ensures) (refl, (c.in_ok-finding.finding, c.in_ok-finding.ensures, c.in_ok-told.ensures))
