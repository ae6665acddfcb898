use Rattle.std.proofs.Common.{map, take}
use Rattle.giotto_rules.specs.text.ProgramTrees.{mode_of}
use Rattle.giotto_check.specs.cited.Timetables.{AreEach, IsTimetable}
use Rattle.giotto_check.proofs.numbering.numbered.Numbered.modes.Given as goal

abbrev pub invariant-loop-mode : goal.invariant-loop-mode
invariant-loop-mode l = AreEach (IsTimetable l.self) (map mode_of (take l.mode-index l.mode-items)) l.tables.items
