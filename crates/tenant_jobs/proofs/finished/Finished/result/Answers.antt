use Rattle.std.proofs.Common.{◌≡◌, Some, refl, sym, ◌∙◌}
use Rattle.slab.specs.Slab.{get}
use Rattle.tenant_jobs.proofs.TableEntries.{found_under}
use Rattle.tenant_jobs.proofs.finished.Finished.result.Goals as goal

pub returns-then-is_named : goal.returns-then-is_named
returns-then-is_named c =
    let e = c.in-Some.entry.now in
    let at : get c.self.inside.entries c.place.result ≡ Some e = sym c.in-Some.ensures in
    let found = found_under c.self.inside.entries c.place.result e c.args.id.now c.self.invariant.0 at (rw at (sym c.is_named.ensures ∙ c.if-is_named.true)) in
    c.result.ensures ∙ rw (← c.self.view_is, found) refl
