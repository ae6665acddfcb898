use Rattle.std.proofs.Common.{◌∙◌, ◌∷◌, ◌++◌, [], sym, ap, take, true, false}
use Rattle.host_core.specs.inner.Trials.{marked}
use Rattle.rig_model.specs.declared.events.Event.{Event}
use Rattle.std.proofs.lemmas.List.{append-nil}
use Rattle.host_core.proofs.Marks.{kept_more}
use Rattle.host_core.proofs.trials.kept.Goals as goal
use Rattle.host_core.proofs.trials.kept.Goals.{then-stays-i+in_ok-copy+in_ok-push, else-stays-i}

pub loop-i-preserved : goal.loop-i-preserved
loop-i-preserved c = elim c.if-stays-i.branch [
  | then-stays-i+in_ok-copy+in_ok-push w ↦
      ap (λ v. v.items) w.kept-is
      ∙ (w.in_ok-push.ensures.items
      ∙ (ap (λ (e : Event). c.loop-i.kept.items ++ e ∷ []) w.in_ok-copy.ensures.same
      ∙ (ap (λ es. es ++ c.index-events-i.result ∷ []) c.loop-i.invariant
      ∙ sym (kept_more c.args.events.now c.args.stays.now c.loop-i.i c.index-events-i.result true false c.loop-i-test.true c.requires c.index-events-i.is w.if-stays-i.true))))
  | else-stays-i w ↦
      ap (λ v. v.items) w.kept-is
      ∙ (c.loop-i.invariant
      ∙ (sym (append-nil (marked (take c.loop-i.i c.args.events.now) (take c.loop-i.i c.args.stays.now)))
      ∙ sym (kept_more c.args.events.now c.args.stays.now c.loop-i.i c.index-events-i.result false false c.loop-i-test.true c.requires c.index-events-i.is w.if-stays-i.false)))
]
