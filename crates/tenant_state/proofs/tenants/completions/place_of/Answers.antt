use Rattle.tenant_state.specs.Tenants.{active_of}
use Rattle.tenant_state.proofs.AwaitedTasks.{none_found}
use Rattle.tenant_state.proofs.tenants.completions.place_of.Goals as goal

pub returns-then-id-tenant-clause-found : goal.returns-then-id-tenant-clause-found
returns-then-id-tenant-clause-found c = none_found c.args.tenant c.args.id.now c.if-id-tenant.true (active_of c.args.checked.now) c.args.active.now
