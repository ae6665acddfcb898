use Rattle.std.proofs.Common.{◌≡◌, ◌∙◌, ℕ, Bool, sym}
use Rattle.rig_retests.specs.Named.{names_of}
use Rattle.run_comparisons.specs.Changes.{is_named}
use Rattle.run_comparisons.proofs.Listing.{fails, passes}
use Rattle.run_comparisons.proofs.changes.named_tenants.Goals as goal
use Rattle.run_comparisons.proofs.changes.named_tenants.Goals.{then-is_named+in_ok-push, else-is_named}

pub loop-tenant-preserved : goal.loop-tenant-preserved
loop-tenant-preserved c =
    let l = c.loop-tenant in
    let p : ℕ → Bool = is_named (names_of c.args.facts.now) c.args.changes.now in
    elim c.if-is_named.branch [
      | then-is_named+in_ok-push w ↦ rw w.tenants-is (passes p l.tenant l.tenants.items w.push.new.self.items l.invariant (sym c.is_named.ensures ∙ w.if-is_named.true) w.in_ok-push.ensures.items)
      | else-is_named w ↦ rw w.tenants-is (fails p l.tenant l.tenants.items l.invariant (sym c.is_named.ensures ∙ w.if-is_named.false))
    ]
