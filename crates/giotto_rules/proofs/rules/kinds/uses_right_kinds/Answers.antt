use Rattle.std.proofs.Common.{◌≡◌}
use Rattle.giotto_rules.proofs.rules.kinds.uses_right_kinds.Goals as goal

pub returns : goal.returns
returns c = rw (← c.in_ok-program.ensures) c.uses_with_ports.ensures
