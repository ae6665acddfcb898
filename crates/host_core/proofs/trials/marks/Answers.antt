use Rattle.std.proofs.Common.{◌∙◌, ◌∷◌, ◌++◌, [], ap, reverse, arith}
use Rattle.std.specs.Prelude.{◌-◌}
use Rattle.rig_model.specs.Sources.{stays}
use Rattle.host_core.specs.inner.Trials.{is_reached, marks_from}
use Rattle.host_core.proofs.Stages.{one_back}
use Rattle.host_core.proofs.trials.marks.Goals as goal

pub loop-left-preserved : goal.loop-left-preserved
loop-left-preserved c = record {
  within = omega (arith, c.loop-left.invariant.within);
  so_far = λ setting lead.
      one_back setting c.args.events.now c.args.noted.now c.loop-left.left (c.loop-left.left - 1) c.index-events-left.result c.index-noted-left.result c.loop-left.sources.items
      c.add_suppliers.new.sources.items c.loop-left.marks.items c.push-in-loop-left.new.self.items (marks_from setting (c.args.tenant ∷ []) (reverse c.args.events.now))
      (omega (arith, c.loop-left-test.true)) c.loop-left.invariant.within c.requires c.index-events-left.is c.index-noted-left.is (c.loop-left.invariant.so_far setting lead)
      (λ u. c.in_ok-add_suppliers.ensures u ∙ ap (λ fs. is_reached c.loop-left.sources.items fs u) c.as_slice-in-loop-left.ensures)
      (c.in_ok-push-2.ensures.items ∙ ap (λ b. c.loop-left.marks.items ++ b ∷ []) (c.stays.ensures ∙ ap (λ ss. stays ss c.index-events-left.result) c.as_slice.ensures.value));
}
