use Rattle.std.proofs.Common.{◌≡◌, ◌∙◌, ℕ, Bool, ap, sym}
use Rattle.run_comparisons.specs.Changes.{change_at}
use Rattle.run_comparisons.specs.declared.changes.Change.{Change}
use Rattle.run_comparisons.proofs.Listing.{fails, passes}
use Rattle.run_comparisons.proofs.changes.changed_tenants.Goals as goal
use Rattle.run_comparisons.proofs.changes.changed_tenants.Goals.{then-change_at+in_ok-push, else-change_at}

pub loop-tenant-preserved : goal.loop-tenant-preserved
loop-tenant-preserved c =
    let l = c.loop-tenant in
    let p : ℕ → Bool = λ t. (change_at c.args.changes.now t).lines in
    let test : c.change_at.result.lines ≡ p l.tenant = ap (λ (change : Change). change.lines) c.change_at.ensures in
    elim c.if-change_at.branch [
      | then-change_at+in_ok-push w ↦ rw w.tenants-is (passes p l.tenant l.tenants.items w.push.new.self.items l.invariant (sym test ∙ w.if-change_at.true) w.in_ok-push.ensures.items)
      | else-change_at w ↦ rw w.tenants-is (fails p l.tenant l.tenants.items l.invariant (sym test ∙ w.if-change_at.false))
    ]
