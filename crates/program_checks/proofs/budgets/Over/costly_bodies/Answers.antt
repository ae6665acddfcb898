use Rattle.giotto_reports.specs.Parts.{body}
use Rattle.rig_model.specs.text.ProgramTrees.{task_of}
use Rattle.program_checks.specs.Excess.{words_of_part}
use Rattle.rig_model.specs.declared.text.programs.Task.{Task}
use Rattle.program_checks.proofs.Telling.{told_further}
use Rattle.program_checks.proofs.budgets.Over.costly_bodies.Goals as goal

pub loop-place-preserved : goal.loop-place-preserved
loop-place-preserved c =
    let l = c.loop-place in
    told_further c.args.self.now.budget (λ (x : Task). words_of_part c.args.self.now.held.tenant.now (body (task_of x))) c.args.tasks.now l.place c.index-tasks-place.result
    c.args.findings.now.items l.findings.items c.costly_part.new.findings.items l.invariant c.loop-place-test.true c.index-tasks-place.is c.in_ok-costly_part.ensures
