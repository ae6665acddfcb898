use Rattle.std.proofs.Common.{sym}
use Rattle.giotto_breaks.specs.text.ProgramTrees.{mode_of, update_of, switch_of, invocation_of}
use Rattle.giotto_reports.specs.Parts.{update, switch, invocation}
use Rattle.giotto_reports.proofs.Searching.{all_passed, behind, in_front, part_found, part_passed}
use Rattle.giotto_reports.proofs.parts.driver_of_cost.Goals as goal

pub loop-update-preserved : goal.loop-update-preserved
loop-update-preserved c =
    part_passed c.args.cost (update (mode_of c.args.mode.now)) update_of c.as_slice-update-items.result.now c.loop-update.update-index c.update-item.result c.cost.result
    c.loop-update.invariant c.loop-update-test.true c.update-item.is c.cost.ensures c.if-cost.false

pub loop-switch-preserved : goal.loop-switch-preserved
loop-switch-preserved c =
    part_passed c.args.cost (switch (mode_of c.args.mode.now)) switch_of c.as_slice-switch-items.result.now c.loop-switch.switch-index c.switch-item.result c.cost-in-loop-switch.result
    c.loop-switch.invariant c.loop-switch-test.true c.switch-item.is c.cost-in-loop-switch.ensures c.if-cost-2.false

pub loop-invocation-preserved : goal.loop-invocation-preserved
loop-invocation-preserved c =
    part_passed c.args.cost (invocation (mode_of c.args.mode.now)) invocation_of c.as_slice-invocation-items.result.now c.loop-invocation.invocation-index c.invocation-item.result c.cost-in-loop-invocation.result
    c.loop-invocation.invariant c.loop-invocation-test.true c.invocation-item.is c.cost-in-loop-invocation.ensures c.if-cost-3.false

pub returns-then-cost : goal.returns-then-cost
returns-then-cost c =
    let here = part_found c.args.cost (update (mode_of c.args.mode.now)) update_of c.as_slice-update-items.result.now c.loop-update.update-index c.update-item.result c.cost.result
    c.loop-update.invariant c.loop-update-test.true c.update-item.is c.cost.ensures c.if-cost.true in
    sym (in_front c.args.cost _ _ _ (rw c.as_slice-update-items.ensures at here))

pub returns-then-cost-2 : goal.returns-then-cost-2
returns-then-cost-2 c =
    let updates = all_passed c.args.cost (update (mode_of c.args.mode.now)) update_of c.as_slice-update-items.result.now c.loop-update.update-index c.loop-update.invariant c.loop-update-test.false in
    let here = part_found c.args.cost (switch (mode_of c.args.mode.now)) switch_of c.as_slice-switch-items.result.now c.loop-switch.switch-index c.switch-item.result c.cost-in-loop-switch.result
    c.loop-switch.invariant c.loop-switch-test.true c.switch-item.is c.cost-in-loop-switch.ensures c.if-cost-2.true in
    sym (behind c.args.cost _ _ _ (rw c.as_slice-update-items.ensures at updates) (in_front c.args.cost _ _ _ (rw c.as_slice-switch-items.ensures at here)))

pub returns-then-cost-3 : goal.returns-then-cost-3
returns-then-cost-3 c =
    let updates = all_passed c.args.cost (update (mode_of c.args.mode.now)) update_of c.as_slice-update-items.result.now c.loop-update.update-index c.loop-update.invariant c.loop-update-test.false in
    let switches = all_passed c.args.cost (switch (mode_of c.args.mode.now)) switch_of c.as_slice-switch-items.result.now c.loop-switch.switch-index c.loop-switch.invariant c.loop-switch-test.false in
    let here = part_found c.args.cost (invocation (mode_of c.args.mode.now)) invocation_of c.as_slice-invocation-items.result.now c.loop-invocation.invocation-index c.invocation-item.result c.cost-in-loop-invocation.result
    c.loop-invocation.invariant c.loop-invocation-test.true c.invocation-item.is c.cost-in-loop-invocation.ensures c.if-cost-3.true in
    sym (behind c.args.cost _ _ _ (rw c.as_slice-update-items.ensures at updates) (behind c.args.cost _ _ _ (rw c.as_slice-switch-items.ensures at switches) (rw c.as_slice-invocation-items.ensures at here)))

pub returns : goal.returns
returns c =
    let updates = all_passed c.args.cost (update (mode_of c.args.mode.now)) update_of c.as_slice-update-items.result.now c.loop-update.update-index c.loop-update.invariant c.loop-update-test.false in
    let switches = all_passed c.args.cost (switch (mode_of c.args.mode.now)) switch_of c.as_slice-switch-items.result.now c.loop-switch.switch-index c.loop-switch.invariant c.loop-switch-test.false in
    let invocations = all_passed c.args.cost (invocation (mode_of c.args.mode.now)) invocation_of c.as_slice-invocation-items.result.now c.loop-invocation.invocation-index c.loop-invocation.invariant c.loop-invocation-test.false in
    sym (behind c.args.cost _ _ _ (rw c.as_slice-update-items.ensures at updates) (behind c.args.cost _ _ _ (rw c.as_slice-switch-items.ensures at switches) (rw c.as_slice-invocation-items.ensures at invocations)))
