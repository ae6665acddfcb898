use Rattle.rig_laws.proofs.cited.LaterBase.{later_is_base}
use Rattle.rig_laws.proofs.laws.later_host_is_a_base.Goals as goal

pub returns : goal.returns
returns c = λ setting past history. later_is_base setting history.base past history.legal
