use Rattle.std.proofs.Common.{map, take}
use Rattle.giotto_tasks.specs.Trees.{expression_of}
use Rattle.giotto_check.specs.cited.Timetables.{AreEach, IsExpression}
use Rattle.giotto_check.proofs.numbering.numbered.Numbered.arguments.Given as goal

abbrev pub invariant-loop-argument : goal.invariant-loop-argument
invariant-loop-argument l = AreEach (IsExpression l.self) (map expression_of (take l.argument-index l.arguments)) l.codes.items
