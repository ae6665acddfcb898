use Rattle.std.proofs.Common.{map, take}
use Rattle.giotto_rules.specs.text.ProgramTrees.{destination_of}
use Rattle.giotto_check.specs.cited.Timetables.{AreEach, IsDestination}
use Rattle.giotto_check.proofs.numbering.numbered.Numbered.destinations.Given as goal

abbrev pub invariant-loop-destination : goal.invariant-loop-destination
invariant-loop-destination l = AreEach (IsDestination l.self) (map destination_of (take l.destination-index l.destinations)) l.entries.items
