use Rattle.std.proofs.Common.{ap, map, subst}
use Rattle.giotto_rules.specs.text.ProgramTrees.{mode_of, switch_of}
use Rattle.giotto_check.specs.cited.Facts.{ProgramFits, SwitchFits}
use Rattle.giotto_check.specs.cited.Timetables.{IsExit}
use Rattle.giotto_check.proofs.cited.EachLemmas.{all_item, each_next}
use Rattle.giotto_check.proofs.numbering.numbered.Numbered.exits.Goals as goal

pub exit-requires-clause-switch : goal.exit-requires-clause-switch
exit-requires-clause-switch c =
    all_item (SwitchFits c.args.self.now (mode_of c.args.mode.now)) switch_of c.as_slice-switch-items.result.now (mode_of c.args.mode.now).switches c.loop-switch.switch-index c.switch-item.result (ap (map switch_of) c.as_slice-switch-items.ensures) c.switch-item.is c.loop-switch-test.true c.requires.switches

pub loop-switch-preserved : goal.loop-switch-preserved
loop-switch-preserved c =
    each_next (IsExit c.args.self.now (mode_of c.args.mode.now)) switch_of c.as_slice-switch-items.result.now c.loop-switch.switch-index c.switch-item.result c.loop-switch.entries.items c.push.new.self.items c.in_ok-exit.field-0 c.loop-switch-test.true c.switch-item.is
    c.loop-switch.invariant c.in_ok-exit.ensures c.in_ok-push.ensures.items

pub exit-requires-clause-program : goal.exit-requires-clause-program
exit-requires-clause-program c = subst ProgramFits c.self.view_is c.self.invariant.fits
