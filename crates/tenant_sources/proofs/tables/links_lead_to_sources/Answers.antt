use Rattle.tenant_sources.proofs.FirstLinks.{source_is_linked}
use Rattle.tenant_sources.proofs.ForwardSources.{behind_tick}
use Rattle.tenant_sources.proofs.tables.links_lead_to_sources.Goals as goal

pub returns-clause-linked : goal.returns-clause-linked
returns-clause-linked c = source_is_linked

pub returns-clause-forward : goal.returns-clause-forward
returns-clause-forward c = behind_tick
