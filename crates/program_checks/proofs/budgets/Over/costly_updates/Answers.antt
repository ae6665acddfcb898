use Rattle.giotto_reports.specs.Parts.{update}
use Rattle.rig_model.specs.text.ProgramTrees.{mode_of, update_of}
use Rattle.program_checks.specs.Excess.{words_of_part}
use Rattle.rig_model.specs.declared.text.programs.Update.{Update}
use Rattle.program_checks.proofs.Telling.{told_further}
use Rattle.program_checks.proofs.budgets.Over.costly_updates.Goals as goal

pub loop-one-preserved : goal.loop-one-preserved
loop-one-preserved c =
    let l = c.loop-one in
    told_further c.args.self.now.budget (λ (x : Update). words_of_part c.args.self.now.held.tenant.now (update (mode_of c.args.mode.now) (update_of x))) c.as_slice-updates.result.now l.one c.index-updates-one.result
    c.args.findings.now.items l.findings.items c.costly_part.new.findings.items l.invariant c.loop-one-test.true c.index-updates-one.is c.in_ok-costly_part.ensures
