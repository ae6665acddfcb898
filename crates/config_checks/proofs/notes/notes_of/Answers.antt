use Rattle.std.proofs.Common.{map}
use Rattle.config_checks.proofs.Noting.{tenant_further}
use Rattle.config_checks.specs.Notes.{as_note, notes_on, told_of}
use Rattle.config_checks.proofs.notes.notes_of.Goals as goal

pub loop-place-preserved : goal.loop-place-preserved
loop-place-preserved c =
    let l = c.loop-place in
    let config = c.args.config.now in
    tenant_further config l.place c.tenant-item.result (map told_of l.notes.items) (map told_of c.add_notes_of.new.notes.items) (map as_note (notes_on config))
    (rw c.tenants-tenant-items.ensures.value at c.loop-place-test.true) (rw c.tenants-tenant-items.ensures.value at c.tenant-item.is) l.invariant c.in_ok-add_notes_of.ensures
