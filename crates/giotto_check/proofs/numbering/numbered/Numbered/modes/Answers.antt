use Rattle.std.proofs.Common.{subst}
use Rattle.giotto_rules.specs.text.ProgramTrees.{mode_of}
use Rattle.giotto_check.specs.cited.Facts.{ModeFits}
use Rattle.giotto_check.specs.cited.Timetables.{IsTimetable}
use Rattle.giotto_check.proofs.cited.EachLemmas.{all_item, each_next}
use Rattle.giotto_check.proofs.numbering.numbered.Numbered.modes.Goals as goal

pub timetable-requires-clause-mode : goal.timetable-requires-clause-mode
timetable-requires-clause-mode c =
    let q = c.self.inside.program.now in
    subst (λ p. ModeFits p (mode_of c.mode-item.result)) c.self.view_is
    (all_item (ModeFits q) mode_of c.modes-mode-items.result.now q.modes c.loop-mode.mode-index c.mode-item.result c.modes-mode-items.ensures c.mode-item.is c.loop-mode-test.true c.self.invariant.fits.modes)

pub loop-mode-preserved : goal.loop-mode-preserved
loop-mode-preserved c =
    each_next (IsTimetable c.args.self.now) mode_of c.modes-mode-items.result.now c.loop-mode.mode-index c.mode-item.result c.loop-mode.tables.items c.push.new.self.items c.in_ok-timetable.field-0 c.loop-mode-test.true c.mode-item.is
    c.loop-mode.invariant c.in_ok-timetable.ensures c.in_ok-push.ensures.items
