use Rattle.std.proofs.Common.{refl, ◌∙◌}
use Rattle.std.proofs.lemmas.List.{length-set}
use Rattle.tenant_state.proofs.EntryTables.{no_entry, table_more}
use Rattle.tenant_state.proofs.tenants.phase_one.EntryTable.fill.Goals as goal

pub loop-i-init : goal.loop-i-init
loop-i-init c = record { long = refl; table = no_entry c.args.active.now; partial = c.requires }

pub loop-i-preserved : goal.loop-i-preserved
loop-i-preserved c =
    let before = c.loop-i.invariant in
    record {
      long = length-set c.loop-i.self.numbers _ _ ∙ before.long;
      table = table_more c.args.active.now c.loop-i.i c.index-active-i.result c.loop-i.self.numbers c.loop-i-test.true before.long c.if-task-ge-TABLED_TASKS.false c.if-self-task-ne0.false before.table;
      partial = before.partial;
    }
