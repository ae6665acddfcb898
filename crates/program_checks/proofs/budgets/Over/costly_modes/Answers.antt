use Rattle.std.specs.List.{flat_map}
use Rattle.giotto_reports.specs.Parts.{drivers_of}
use Rattle.rig_model.specs.text.ProgramTrees.{mode_of}
use Rattle.program_checks.specs.Excess.{words_of_part}
use Rattle.rig_model.specs.declared.text.programs.Mode.{Mode}
use Rattle.program_checks.proofs.Telling.{told_further}
use Rattle.program_checks.proofs.budgets.Over.costly_modes.Goals as goal

pub loop-place-preserved : goal.loop-place-preserved
loop-place-preserved c =
    let l = c.loop-place in
    told_further c.args.self.now.budget (λ (x : Mode). flat_map (words_of_part c.args.self.now.held.tenant.now) (drivers_of (mode_of x))) c.args.modes.now l.place c.index-modes-place.result
    c.args.findings.now.items l.findings.items c.costly_drivers.new.findings.items l.invariant c.loop-place-test.true c.index-modes-place.is c.in_ok-costly_drivers.ensures
