use Rattle.std.proofs.Common.{◌≡◌, ◌<◌, true, map, length, refl, sym, ◌∙◌, subst, arith}
use Rattle.std.proofs.lemmas.List.{length-map}
use Rattle.tenant_state.specs.Standing.{all_different_releases}
use Rattle.tenant_state.specs.Tenants.{active_of}
use Rattle.tenant_state.proofs.Completing.{entered_there, stands_there, computed_more, left_fewer}
use Rattle.tenant_state.proofs.tenants.Tenant.complete_all.Goals as goal
use Rattle.tenant_state.proofs.tenants.Tenant.complete_all.Goals.{then-compute, else-compute}

pub loop-active-init : goal.loop-active-init
loop-active-init c = record {
  few = omega arith;
  number = omega arith;
  to = record { entered = λ j. refl; results = λ j. refl; right = λ all. all; others = λ j none. refl };
  room = refl;
}

pub compute-requires-clause-entered : goal.compute-requires-clause-entered
compute-requires-clause-entered c =
    let entries = rw (← c.self.view_is, c.in-Some.is) at c.requires.entries in
    rw c.own.ensures.place (entered_there c.in-Some.checked c.self.inside.grants.owner.place c.self.inside.active.items c.as_slice-active-items.result.now c.loop-active.active-index c.active-item.result c.args.finished.now.entries c.loop-active.finished.entries
    c.as_slice-active-items.ensures c.loop-active-test.true c.active-item.is entries c.loop-active.invariant.to.entered)

pub overflow_add-number : goal.overflow_add-number
overflow_add-number c = omega (arith, c.loop-active.invariant.few, c.loop-active-test.true, c.as_slice-active-items.type_inv)

pub loop-active-preserved : goal.loop-active-preserved
loop-active-preserved c =
    let p = c.in-Some.checked in
    let t = c.self.inside.grants.owner.place in
    let items = c.as_slice-active-items.result.now in
    let i = c.loop-active.active-index in
    let a = c.active-item.result in
    let known = rw c.in-Some.is at c.self.invariant.0 in
    let different = subst (λ xs. all_different_releases (map (active_of p) xs) ≡ true) (sym c.as_slice-active-items.ensures) known.different in
    let lt : i < length (map (active_of p) items) = omega (arith, length-map items (active_of p), c.loop-active-test.true) in
    let at = stands_there p items i a c.active-item.is in
    let entries = rw (← c.self.view_is, c.in-Some.is) at c.requires.entries in
    let entered = entered_there p t c.self.inside.active.items items i a c.args.finished.now.entries c.loop-active.finished.entries c.as_slice-active-items.ensures c.loop-active-test.true c.active-item.is entries c.loop-active.invariant.to.entered in
    let now = c.loop-active.invariant in
    let computed = rw c.own.ensures.place at c.compute.ensures.computed in
    let behind = rw c.own.ensures.place at c.compute.ensures.entries in
    let fewer = left_fewer p t (map (active_of p) items) i (active_of p a) lt at different c.loop-active.finished.entries c.compute.new.finished.entries c.compute.result entered computed behind in
    record {
      few = elim c.if-compute.branch [
        | then-compute w ↦ omega (arith, now.few, w.number-is)
        | else-compute w ↦ omega (arith, now.few, w.number-is)
      ];
      number = elim c.if-compute.branch [
        | then-compute w ↦ omega (arith, now.number, w.number-is, rw w.if-compute.true at fewer)
        | else-compute w ↦ omega (arith, now.number, w.number-is, rw w.if-compute.false at fewer)
      ];
      to = computed_more p t (map (active_of p) items) i (active_of p a) lt at different c.loop-active.finished.entries c.compute.new.finished.entries c.compute.result entered computed behind now.to;
      room = c.compute.ensures.room ∙ now.room;
    }
