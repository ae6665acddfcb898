use Rattle.std.proofs.Common.{map, take}
use Rattle.giotto_rules.specs.text.ProgramTrees.{mode_of, switch_of}
use Rattle.giotto_check.specs.cited.Timetables.{AreEach, IsExit}
use Rattle.giotto_check.proofs.numbering.numbered.Numbered.exits.Given as goal

abbrev pub invariant-loop-switch : goal.invariant-loop-switch
invariant-loop-switch l = AreEach (IsExit l.self (mode_of l.mode)) (map switch_of (take l.switch-index l.switch-items)) l.entries.items
