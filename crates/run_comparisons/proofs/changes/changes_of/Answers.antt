use Rattle.run_comparisons.specs.Changes.{change_of}
use Rattle.run_comparisons.proofs.Listing.{mapped}
use Rattle.run_comparisons.proofs.changes.changes_of.Goals as goal

pub loop-tenant-preserved : goal.loop-tenant-preserved
loop-tenant-preserved c =
    let l = c.loop-tenant in
    mapped (change_of c.args.tolerance c.args.old.now c.args.new.now) l.tenant l.changes.items c.push.new.self.items c.in_ok-change_of.field-0 l.invariant c.in_ok-change_of.ensures c.in_ok-push.ensures.items
