use Rattle.std.proofs.Common.{◌++◌, ◌∙◌, ap, sym, string_bytes}
use Rattle.run_comparisons.specs.Changes.{in_scope}
use Rattle.run_comparisons.specs.Texts.{text_of_tenant}
use Rattle.run_comparisons.proofs.Listing.{text_with, text_without}
use Rattle.run_comparisons.proofs.texts.text_of_tenants.Goals as goal
use Rattle.run_comparisons.proofs.texts.text_of_tenants.Goals.{then-has+in_ok-row+in_ok-push_str, else-has}

pub loop-tenant-preserved : goal.loop-tenant-preserved
loop-tenant-preserved c =
    let l = c.loop-tenant in
    let row = text_of_tenant c.args.tolerance c.args.config.now c.args.old.now.path.now c.args.new.now.path.now c.args.old.now.answers.now c.args.new.now.answers.now in
    elim c.if-has.branch [
      | then-has+in_ok-row+in_ok-push_str w ↦
          rw w.text-is
          (text_with (in_scope c.args.scope) row l.tenant (string_bytes l.text) (string_bytes w.push_str.new.self) l.invariant (sym c.has.ensures ∙ w.if-has.true)
          (w.in_ok-push_str.ensures.bytes ∙ ap (λ t. string_bytes l.text ++ t) (w.as_str.ensures.value ∙ w.in_ok-row.ensures)))
      | else-has w ↦ rw w.text-is (text_without (in_scope c.args.scope) row l.tenant (string_bytes l.text) l.invariant (sym c.has.ensures ∙ w.if-has.false))
    ]
