use Rattle.std.proofs.Common.{map, rules}
use Rattle.config_checks.proofs.Noting.{line_further}
use Rattle.config_checks.specs.Notes.{told_of}
use Rattle.config_checks.specs.Plants.{note_of_unfed}
use Rattle.config_checks.proofs.plants.add_unfed_of.Goals as goal

pub loop-line-preserved : goal.loop-line-preserved
loop-line-preserved c =
    let l = c.loop-line in
    line_further (note_of_unfed c.args.plant.now c.args.tenant.now.name) c.as_slice-line-items.result.now l.line-index _ (map told_of c.args.notes.now.items) (map told_of l.notes.items) (map told_of c.add_unfed.new.notes.items)
    l.invariant c.loop-line-test.true (search rules) c.in_ok-add_unfed.ensures
