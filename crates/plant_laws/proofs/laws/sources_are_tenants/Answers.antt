use Rattle.plant_laws.proofs.RosterSources.{source_within}
use Rattle.plant_laws.proofs.laws.sources_are_tenants.Goals as goal

pub returns : goal.returns
returns c = λ setting past t u tenant is. source_within setting (c.links_lead_to_sources.ensures.forward setting) past t u tenant is
