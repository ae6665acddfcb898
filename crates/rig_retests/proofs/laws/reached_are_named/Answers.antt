use Rattle.rig_retests.proofs.Naming.{all_named}
use Rattle.rig_retests.proofs.laws.reached_are_named.Goals as goal

pub returns : goal.returns
returns c = λ setting plant past rows links table reach. all_named setting plant past rows links table reach (c.links_lead_to_sources.ensures.linked setting past)
