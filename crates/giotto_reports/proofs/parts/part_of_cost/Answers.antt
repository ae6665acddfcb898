use Rattle.std.proofs.Common.{rules, sym}
use Rattle.giotto_breaks.specs.text.ProgramTrees.{task_of, mode_of}
use Rattle.giotto_reports.specs.Parts.{body, drivers_of}
use Rattle.giotto_reports.proofs.Searching.{all_among, all_passed, behind, found_among, in_front, part_found, part_passed, passed_among}
use Rattle.giotto_reports.proofs.parts.part_of_cost.Goals as goal

pub loop-task-preserved : goal.loop-task-preserved
loop-task-preserved c =
    part_passed c.args.cost body task_of c.tasks-task-items.result.now c.loop-task.task-index c.task-item.result c.cost.result
    c.loop-task.invariant c.loop-task-test.true c.task-item.is c.cost.ensures c.if-cost.false

pub loop-mode-preserved : goal.loop-mode-preserved
loop-mode-preserved c =
    passed_among c.args.cost drivers_of mode_of c.modes-mode-items.result.now c.loop-mode.mode-index c.mode-item.result
    c.loop-mode.invariant c.loop-mode-test.true c.mode-item.is (search rules)

pub returns-then-cost : goal.returns-then-cost
returns-then-cost c =
    let here = part_found c.args.cost body task_of c.tasks-task-items.result.now c.loop-task.task-index c.task-item.result c.cost.result
    c.loop-task.invariant c.loop-task-test.true c.task-item.is c.cost.ensures c.if-cost.true in
    sym (in_front c.args.cost _ _ _ (rw c.tasks-task-items.ensures at here))

pub returns-in-Some : goal.returns-in-Some
returns-in-Some c =
    let bodies = all_passed c.args.cost body task_of c.tasks-task-items.result.now c.loop-task.task-index c.loop-task.invariant c.loop-task-test.false in
    let driver = rw c.in-Some.is at c.driver_of_cost.ensures in
    let here = found_among c.args.cost drivers_of mode_of c.modes-mode-items.result.now c.loop-mode.mode-index c.mode-item.result
    c.loop-mode.invariant c.loop-mode-test.true c.mode-item.is _ (sym driver) in
    sym (behind c.args.cost _ _ _ (rw c.tasks-task-items.ensures at bodies) (rw c.modes-mode-items.ensures at here))

pub returns : goal.returns
returns c =
    let bodies = all_passed c.args.cost body task_of c.tasks-task-items.result.now c.loop-task.task-index c.loop-task.invariant c.loop-task-test.false in
    let drivers = all_among c.args.cost drivers_of mode_of c.modes-mode-items.result.now c.loop-mode.mode-index c.loop-mode.invariant c.loop-mode-test.false in
    sym (behind c.args.cost _ _ _ (rw c.tasks-task-items.ensures at bodies) (rw c.modes-mode-items.ensures at drivers))
