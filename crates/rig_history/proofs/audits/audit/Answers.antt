use Rattle.std.proofs.Common.{refl}
use Rattle.rig_history.specs.inner.Auditing.{first_setting}
use Rattle.rig_history.proofs.audits.audit.Goals as goal

pub play-requires : goal.play-requires
play-requires c = c.in_ok-host.ensures.base (first_setting c.args.config.now c.args.first_tick) refl
