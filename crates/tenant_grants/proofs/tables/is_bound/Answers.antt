use Rattle.std.proofs.Common.{◌∙◌}
use Rattle.tenant_grants.proofs.BindTables.{is_bound_entries}
use Rattle.tenant_grants.proofs.tables.is_bound.Goals as goal

pub returns : goal.returns
returns c = c.contains_key.ensures ∙ rw c.copy.ensures (is_bound_entries c.args.sensor.now c.args.binds.now.entries)
