use Rattle.std.proofs.Common.{◌≡◌, ◌+◌, List, filter, take, Vec, Global, None, sym, ap, subst, ◌∙◌}
use Rattle.giotto_tasks.specs.cited.Places.{place_from}
use Rattle.rig_model.specs.rules.Ports.{slot_of}
use Rattle.giotto_check.proofs.cited.SlotLemmas.{slot_shared}
use Rattle.tenant_slots.specs.cited.Replacement.{AreCarried, is_carried}
use Rattle.tenant_slots.specs.declared.replacement.Carried.{Carried}
use Rattle.tenant_slots.proofs.CarryTables.{entry_made, entry_left_out, no_port, slot_of_place}
use Rattle.tenant_slots.proofs.replacement.add_carried.Goals as goal
use Rattle.tenant_slots.proofs.replacement.add_carried.Goals.{in-Some+then-is_one_kind+in_ok-push, in-Some+else-is_one_kind, in_default}

pub loop-to-preserved : goal.loop-to-preserved
loop-to-preserved c =
    let old = c.args.old.now in
    let new = c.args.new.now in
    let i = c.loop-to.to in
    let x = c.index-ports-to.result in
    let old_fits = c.known.ensures.fits in
    let new_fits = c.known-2.ensures.fits in
    let from : slot_of old None x ≡ c.place.result = slot_shared old x ∙ sym (c.place.ensures ∙ ap (λ ns. place_from 0 ns x) c.requires.running) in
    let to = slot_of_place new new_fits c.args.ports.now c.requires.ports i x c.loop-to-test.true c.index-ports-to.is in
    let made = entry_made old new old_fits new_fits c.args.ports.now c.requires.ports i x c.loop-to-test.true c.index-ports-to.is c.loop-to.table.items c.loop-to.invariant in
    let left_out = entry_left_out old new old_fits new_fits c.args.ports.now c.requires.ports i x c.loop-to-test.true c.index-ports-to.is c.loop-to.table.items c.loop-to.invariant in
    elim c.match-place.branch [
      | in-Some+then-is_one_kind+in_ok-push w ↦
          let at = from ∙ w.in-Some.is in
          subst (λ (es : List Carried). AreCarried old new (filter (is_carried old new) (take (i + 1) c.args.ports.now)) es) (sym (ap (λ (t : Vec Carried Global). t.items) w.table-is ∙ w.in_ok-push.ensures.items))
          (made w.in-Some.from at (sym (w.is_one_kind.ensures x at to) ∙ w.if-is_one_kind.true))
      | in-Some+else-is_one_kind w ↦
          subst (λ (es : List Carried). AreCarried old new (filter (is_carried old new) (take (i + 1) c.args.ports.now)) es) (sym (ap (λ (t : Vec Carried Global). t.items) w.table-is))
          (left_out (sym (w.is_one_kind.ensures x (from ∙ w.in-Some.is) to) ∙ w.if-is_one_kind.false))
      | in_default w ↦
          subst (λ (es : List Carried). AreCarried old new (filter (is_carried old new) (take (i + 1) c.args.ports.now)) es) (sym (ap (λ (t : Vec Carried Global). t.items) w.table-is))
          (left_out (no_port old new x (from ∙ w.in_default.is)))
    ]
