use Rattle.std.proofs.Common.{◌∙◌}
use Rattle.indexmap.proofs.CallerLemmas.{insert_entry-new}
use Rattle.tenant_grants.proofs.BindTables.{absent_entries}
use Rattle.tenant_grants.proofs.tables.add.Goals as goal

pub returns-clause-added : goal.returns-clause-added
returns-clause-added c = c.in_ok-insert.ensures.entries ∙ insert_entry-new _ c.args.binds.now c.args.sensor c.args.supplier (absent_entries c.args.sensor.name c.args.binds.now.entries c.requires)
