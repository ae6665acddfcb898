use Rattle.rig_laws.proofs.cited.LaterBase.{new_is_base}
use Rattle.rig_laws.proofs.laws.new_host_is_a_base.Goals as goal

pub returns : goal.returns
returns c = new_is_base
