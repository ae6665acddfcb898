use Rattle.std.proofs.Common.{map}
use Rattle.config_checks.proofs.Noting.{notes_further}
use Rattle.config_checks.specs.Notes.{told_of}
use Rattle.config_checks.specs.Plants.{unfed_of}
use Rattle.config_checks.proofs.plants.add_plant_notes.Goals as goal

pub loop-place-preserved : goal.loop-place-preserved
loop-place-preserved c =
    let l = c.loop-place in
    let config = c.args.config.now in
    notes_further (unfed_of c.args.plant.now) config.tenants l.place c.tenant-item.result (map told_of c.args.notes.now.items) (map told_of l.notes.items) (map told_of c.add_unfed_of.new.notes.items)
    l.invariant (rw c.tenants-tenant-items.ensures.value at c.loop-place-test.true) (rw c.tenants-tenant-items.ensures.value at c.tenant-item.is) c.in_ok-add_unfed_of.ensures
