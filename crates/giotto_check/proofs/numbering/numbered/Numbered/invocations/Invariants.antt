use Rattle.std.proofs.Common.{map, take}
use Rattle.giotto_rules.specs.text.ProgramTrees.{mode_of, invocation_of}
use Rattle.giotto_check.specs.cited.Timetables.{AreEach, IsInvocation}
use Rattle.giotto_check.proofs.numbering.numbered.Numbered.invocations.Given as goal

abbrev pub invariant-loop-invocation : goal.invariant-loop-invocation
invariant-loop-invocation l = AreEach (IsInvocation l.self (mode_of l.mode)) (map invocation_of (take l.invocation-index l.invocation-items)) l.entries.items
