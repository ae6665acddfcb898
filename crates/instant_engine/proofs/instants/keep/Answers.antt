use Rattle.std.proofs.Common.{◌≡◌, ◌<◌, length, get_or, ap, ◌∙◌, arith}
use Rattle.tenant_state.specs.Standing.{Standing}
use Rattle.tenant_state.specs.cited.Standing.{without_ended}
use Rattle.instant_engine.specs.Tenants.{tenant_at}
use Rattle.instant_engine.specs.cited.Halves.{}
use Rattle.instant_engine.proofs.Kept.{left_none, left_more, left_all, without_each}
use Rattle.instant_engine.proofs.cited.Loops.{stepped_none, stepped_more, stepped_all, unstepped}
use Rattle.instant_engine.proofs.instants.keep.Goals as goal

pub loop-i-init : goal.loop-i-init
loop-i-init c = record { steps = stepped_none _ c.args.tenants.now; left = left_none c.args.tenants.now c.args.finished.now.entries; room = omega arith }

pub loop-i-preserved : goal.loop-i-preserved
loop-i-preserved c =
    let d : Standing = c.index-tenants-i.result in
    let x : Standing = get_or c.loop-i.tenants c.loop-i.i d in
    let inside : c.loop-i.i < length c.args.tenants.now = omega (arith, c.loop-i-test.true) in
    let here : x ≡ tenant_at c.args.tenants.now c.loop-i.i = unstepped _ c.loop-i.i c.args.tenants.now c.loop-i.tenants d inside c.loop-i.invariant.steps in
    record {
      steps = stepped_more (λ t x y. y ≡ without_ended x) c.loop-i.i c.args.tenants.now c.loop-i.tenants d c.leave.new.self inside c.loop-i.invariant.steps c.leave.ensures.same;
      left = left_more c.loop-i.i c.args.tenants.now x c.args.finished.now.entries c.loop-i.finished.entries c.leave.new.finished.entries here
          (ap (λ (s : Standing). s.tenancy.owner.place) here ∙ c.requires.placed c.loop-i.i inside) c.leave.ensures.entries c.loop-i.invariant.left;
      room = omega (arith, c.loop-i.invariant.room, c.leave.ensures.room);
    }

pub returns-clause-entries : goal.returns-clause-entries
returns-clause-entries c =
    left_all c.loop-i.i c.args.tenants.now c.args.finished.now.entries c.loop-i.finished.entries (omega (arith, c.loop-i-test.false)) c.requires.told c.loop-i.invariant.left

pub returns-clause-tenants : goal.returns-clause-tenants
returns-clause-tenants c = without_each c.args.tenants.now c.loop-i.tenants (stepped_all _ c.loop-i.i c.args.tenants.now c.loop-i.tenants (omega (arith, c.loop-i-test.false)) c.loop-i.invariant.steps)
