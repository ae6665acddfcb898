use Rattle.std.proofs.Common.{◌≡◌, ◌∙◌, ℕ, Bool, sym}
use Rattle.rig_retests.specs.Named.{names_of}
use Rattle.run_comparisons.specs.Changes.{is_unnamed}
use Rattle.run_comparisons.proofs.Listing.{fails, passes}
use Rattle.run_comparisons.proofs.changes.unnamed_tenants.Goals as goal
use Rattle.run_comparisons.proofs.changes.unnamed_tenants.Goals.{then-is_unnamed+in_ok-push, else-is_unnamed}

pub loop-tenant-preserved : goal.loop-tenant-preserved
loop-tenant-preserved c =
    let l = c.loop-tenant in
    let p : ℕ → Bool = is_unnamed (names_of c.args.facts.now) c.args.changes.now c.args.scope in
    elim c.if-is_unnamed.branch [
      | then-is_unnamed+in_ok-push w ↦ rw w.tenants-is (passes p l.tenant l.tenants.items w.push.new.self.items l.invariant (sym c.is_unnamed.ensures ∙ w.if-is_unnamed.true) w.in_ok-push.ensures.items)
      | else-is_unnamed w ↦ rw w.tenants-is (fails p l.tenant l.tenants.items l.invariant (sym c.is_unnamed.ensures ∙ w.if-is_unnamed.false))
    ]
