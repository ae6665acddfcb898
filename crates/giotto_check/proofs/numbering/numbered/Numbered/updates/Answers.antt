use Rattle.std.proofs.Common.{ap, map}
use Rattle.giotto_rules.specs.text.ProgramTrees.{mode_of, update_of}
use Rattle.giotto_check.specs.cited.Facts.{UpdateFits}
use Rattle.giotto_check.specs.cited.Timetables.{IsUpdate}
use Rattle.giotto_check.proofs.cited.EachLemmas.{all_item, each_next}
use Rattle.giotto_check.proofs.numbering.numbered.Numbered.updates.Goals as goal

pub update-requires-clause-update : goal.update-requires-clause-update
update-requires-clause-update c =
    all_item (UpdateFits c.args.self.now (mode_of c.args.mode.now)) update_of c.as_slice-update-items.result.now (mode_of c.args.mode.now).updates c.loop-update.update-index c.update-item.result (ap (map update_of) c.as_slice-update-items.ensures) c.update-item.is c.loop-update-test.true c.requires.updates

pub loop-update-preserved : goal.loop-update-preserved
loop-update-preserved c =
    each_next (IsUpdate c.args.self.now (mode_of c.args.mode.now)) update_of c.as_slice-update-items.result.now c.loop-update.update-index c.update-item.result c.loop-update.entries.items c.push.new.self.items c.in_ok-update.field-0 c.loop-update-test.true c.update-item.is
    c.loop-update.invariant c.in_ok-update.ensures c.in_ok-push.ensures.items
