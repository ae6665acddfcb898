use Rattle.std.proofs.Common.{◌∙◌, ap, is_some}
use Rattle.tenant_grants.proofs.BindTables.{is_bound_entries}
use Rattle.tenant_grants.proofs.tables.take_out.Goals as goal

pub returns-clause-found : goal.returns-clause-found
returns-clause-found c = c.is_some.ensures ∙ (ap is_some c.shift_remove.ensures.value ∙ rw c.copy.ensures (is_bound_entries c.args.sensor.now c.args.binds.now.entries))
