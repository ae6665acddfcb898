use Rattle.giotto_reports.specs.Parts.{invocation}
use Rattle.rig_model.specs.text.ProgramTrees.{mode_of, invocation_of}
use Rattle.program_checks.specs.Excess.{words_of_part}
use Rattle.rig_model.specs.declared.text.programs.Invocation.{Invocation}
use Rattle.program_checks.proofs.Telling.{told_further}
use Rattle.program_checks.proofs.budgets.Over.costly_invocations.Goals as goal

pub loop-one-preserved : goal.loop-one-preserved
loop-one-preserved c =
    let l = c.loop-one in
    told_further c.args.self.now.budget (λ (x : Invocation). words_of_part c.args.self.now.held.tenant.now (invocation (mode_of c.args.mode.now) (invocation_of x))) c.as_slice-invocations.result.now l.one c.index-invocations-one.result
    c.args.findings.now.items l.findings.items c.costly_part.new.findings.items l.invariant c.loop-one-test.true c.index-invocations-one.is c.in_ok-costly_part.ensures
