use Rattle.giotto_tasks.specs.Names.{same_name}
use Rattle.rig_config.specs.Roster.{Rig}
use Rattle.rig_config.specs.declared.TenantConfig.{TenantConfig}
use Rattle.tenant_grants.proofs.Rosters.{position_map, name_at_place}
use Rattle.tenant_grants.proofs.laws.roster_of_a_rig.Goals as goal

pub returns-clause-places : goal.returns-clause-places
returns-clause-places c = λ (rig : Rig) x. position_map (λ (t : TenantConfig). t.name) (λ n. same_name n x) rig.tenants

pub returns-clause-names : goal.returns-clause-names
returns-clause-names c = λ (rig : Rig) place. name_at_place rig.tenants place
