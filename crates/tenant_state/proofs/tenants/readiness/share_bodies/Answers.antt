use Rattle.std.proofs.Common.{is_some, refl, sym, ◌∙◌, arith}
use Rattle.std.specs.Arc.{arc_value}
use Rattle.std.specs.Option.{option_map}
use Rattle.std.proofs.lemmas.Bool.{and_from}
use Rattle.std.proofs.lemmas.List.{length-map}
use Rattle.std.proofs.lemmas.List.Folds.{list_all_more}
use Rattle.tenant_slots.proofs.of_well_formed.EachLemmas.{each_long}
use Rattle.rig_model.specs.text.ProgramTrees.{task_of}
use Rattle.tenant_state.specs.inner.Tenants.{IsShareOf}
use Rattle.tenant_state.proofs.Shares.{share_made}
use Rattle.tenant_state.proofs.tenants.readiness.share_bodies.Goals as goal
use Rattle.tenant_state.proofs.tenants.readiness.share_bodies.Goals.{then-is_none+in_ok-try_clone+in-Some-1, then-is_none+in_ok-try_clone+in-None-1, else-is_none}

pub loop-k-init : goal.loop-k-init
loop-k-init c = record {
  long = sym (length-map c.args.tasks.now task_of) ∙ each_long IsShareOf _ _ c.requires ∙ length-map c.args.shares.now (option_map arc_value);
  each = c.requires;
  shared = refl;
}

pub loop-k-preserved : goal.loop-k-preserved
loop-k-preserved c =
    let now = c.loop-k.invariant in
    elim c.if-is_none.branch [
      | then-is_none+in_ok-try_clone+in-Some-1 w ↦
          let made = share_made arc_value c.args.tasks.now c.loop-k.shares _ c.loop-k.k w.index-tasks-k.result w.in_ok-try_clone.field-0 (omega arith) (omega arith) w.in_ok-try_clone.ensures w.shares-is now.each now.shared in
          record { long = omega arith; each = made.0; shared = made.1 }
      | then-is_none+in_ok-try_clone+in-None-1 w ↦
          let made = share_made arc_value c.args.tasks.now c.loop-k.shares _ c.loop-k.k w.index-tasks-k.result w.in_ok-try_clone.field-0 (omega arith) (omega arith) w.in_ok-try_clone.ensures w.shares-is now.each now.shared in
          record { long = omega arith; each = made.0; shared = made.1 }
      | else-is_none w ↦
          let more = list_all_more is_some c.loop-k.shares c.loop-k.k c.index-shares-k.result (omega arith) ∙ and_from _ _ now.shared w.if-is_none.ensures in
          record { long = omega arith; each = rw (w.shares-is) now.each; shared = rw (w.shares-is) more }
    ]
