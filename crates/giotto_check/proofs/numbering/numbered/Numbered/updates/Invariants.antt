use Rattle.std.proofs.Common.{map, take}
use Rattle.giotto_rules.specs.text.ProgramTrees.{mode_of, update_of}
use Rattle.giotto_check.specs.cited.Timetables.{AreEach, IsUpdate}
use Rattle.giotto_check.proofs.numbering.numbered.Numbered.updates.Given as goal

abbrev pub invariant-loop-update : goal.invariant-loop-update
invariant-loop-update l = AreEach (IsUpdate l.self (mode_of l.mode)) (map update_of (take l.update-index l.update-items)) l.entries.items
