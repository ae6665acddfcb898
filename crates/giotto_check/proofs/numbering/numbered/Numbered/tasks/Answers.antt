use Rattle.std.proofs.Common.{◌+◌, length, map, take, drop, ap, sym, subst, arith, ◌∙◌}
use Rattle.giotto_tasks.specs.Syntax.{TaskBody}
use Rattle.giotto_rules.specs.text.Program.{GiottoProgram}
use Rattle.giotto_rules.specs.text.ProgramTrees.{task_of}
use Rattle.giotto_rules.proofs.cited.ProgramParts.{names_of_states}
use Rattle.giotto_check.specs.cited.Facts.{ProgramFits, TaskFits}
use Rattle.giotto_check.specs.cited.Timetables.{AreTaskSlots}
use Rattle.giotto_check.proofs.cited.EachLemmas.{all_item, cut_at, each_next}
use Rattle.giotto_check.proofs.cited.SlotLemmas.{own_slots, before_more, small_task}
use Rattle.giotto_check.proofs.numbering.numbered.Numbered.tasks.Goals as goal

pub outputs-requires : goal.outputs-requires
outputs-requires c =
    let p = c.args.self.now in
    let t = c.task-item.result in
    let fits : ProgramFits p = subst ProgramFits c.self.view_is c.self.invariant.fits in
    let all = c.tasks-task-items.ensures ∙ ap (λ (q : GiottoProgram). q.tasks) c.self.view_is in
    let task = all_item (TaskFits p) task_of c.tasks-task-items.result.now p.tasks c.loop-task.task-index t all c.task-item.is c.loop-task-test.true fits.tasks in
    let outputs = c.as_slice.ensures ∙ ap (λ (b : TaskBody). b.outputs) (c.body.view_is ∙ c.deref-body.ensures) in
    rw outputs task.outputs

pub loop-task-preserved : goal.loop-task-preserved
loop-task-preserved c =
    let p = c.args.self.now in
    let t = c.task-item.result in
    let i = c.loop-task.task-index in
    let items = c.tasks-task-items.result.now in
    let first = c.loop-task.inputs in
    let fits : ProgramFits p = subst ProgramFits c.self.view_is c.self.invariant.fits in
    let all = c.tasks-task-items.ensures ∙ ap (λ (q : GiottoProgram). q.tasks) c.self.view_is in
    let task = all_item (TaskFits p) task_of items p.tasks i t all c.task-item.is c.loop-task-test.true fits.tasks in
    let body = c.body.view_is ∙ c.deref-body.ensures in
    let inputs = c.as_slice-in-loop-task.ensures ∙ ap (λ (b : TaskBody). b.inputs) body in
    let states = c.as_slice-in-loop-task-2.ensures ∙ ap (λ (b : TaskBody). b.states) body ∙ sym (names_of_states t) in
    let outputs = c.as_slice.ensures ∙ ap (λ (b : TaskBody). b.outputs) body in
    let own = own_slots p (map task_of (take i items)) (map task_of (drop (i + 1) items)) (task_of t) first fits.ports_once (cut_at task_of items p.tasks i t all c.task-item.is c.loop-task-test.true) c.loop-task.invariant.before in
    let small = small_task (task_of t) task.sound in
    let more = before_more p items i t c.task-item.is c.loop-task-test.true in
    record {
      each =
          each_next (AreTaskSlots p) task_of items i t c.loop-task.tasks.items c.push.new.self.items (record { inputs = first; states = first + length c.as_slice-in-loop-task.result.now; outputs = c.in_ok-outputs.outputs }) c.loop-task-test.true c.task-item.is c.loop-task.invariant.each
          (record { inputs = own.0; states = rw inputs own.1; outputs = rw outputs at c.in_ok-outputs.ensures })
          c.in_ok-push.ensures.items;
      before = omega (arith, c.loop-task.invariant.before, more, ap length inputs, ap length states);
      bound = omega (arith, c.loop-task.invariant.bound, small.0, small.1, ap length inputs, ap length states);
    }
