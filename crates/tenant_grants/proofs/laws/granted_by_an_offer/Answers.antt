use Rattle.std.proofs.Common.{sym}
use Rattle.giotto_tasks.proofs.cited.ListLemmas.{find_is_any}
use Rattle.tenant_grants.specs.Grants.{is_offer_of}
use Rattle.tenant_grants.proofs.laws.granted_by_an_offer.Goals as goal

pub returns-clause-offered : goal.returns-clause-offered
returns-clause-offered c = λ os actuator tenant. sym (find_is_any (is_offer_of actuator tenant) os)
