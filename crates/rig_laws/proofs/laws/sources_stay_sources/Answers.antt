use Rattle.rig_laws.proofs.cited.TwoWorlds.{sources_stay}
use Rattle.rig_laws.proofs.laws.sources_stay_sources.Goals as goal

pub returns : goal.returns
returns c = sources_stay
