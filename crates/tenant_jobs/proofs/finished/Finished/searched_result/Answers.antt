use Rattle.std.proofs.Common.{◌≡◌, Some, refl, ◌∙◌}
use Rattle.slab.specs.Slab.{get}
use Rattle.tenant_jobs.proofs.TableEntries.{found_under}
use Rattle.tenant_jobs.proofs.finished.Finished.searched_result.Goals as goal

pub returns : goal.returns
returns c =
    let e = c.index.result.now in
    let at : get c.self.inside.entries c.in_ok-key.key ≡ Some e = c.index.ensures in
    let found = found_under c.self.inside.entries c.in_ok-key.key e c.args.id c.self.invariant.0 at c.in_ok-key.ensures.found in
    c.result.ensures ∙ rw (← c.self.view_is, found) refl
