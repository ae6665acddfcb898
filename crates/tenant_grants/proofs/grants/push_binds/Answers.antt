use Rattle.std.proofs.Common.{sym}
use Rattle.tenant_grants.specs.declared.rows.Row.TheVariants as row
use Rattle.tenant_grants.specs.inner.Tables.{bind_of}
use Rattle.tenant_grants.proofs.RowLists.{row_pushed}
use Rattle.tenant_grants.proofs.grants.push_binds.Goals as goal

pub loop-i-preserved : goal.loop-i-preserved
loop-i-preserved c =
    row_pushed (λ e. row.Bind (bind_of e)) c.args.binds.now.entries c.loop-i.i (c.in-Some.sensor.now, c.in-Some.supplier.now) c.args.rows.now.items c.loop-i.rows.items c.push.new.self.items
    (sym (rw c.in-Some.is at c.get_index.ensures.entry)) c.loop-i.invariant (rw c.bind_of.ensures at c.in_ok-push.ensures.items)
