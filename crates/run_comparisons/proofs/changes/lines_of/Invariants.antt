use Rattle.std.proofs.Common.{◌≡◌, map, take}
use Rattle.run_comparisons.proofs.changes.lines_of.Given as goal

abbrev pub invariant-loop-answer : goal.invariant-loop-answer
invariant-loop-answer l = map (λ line. line.now) l.lines.items ≡ map (λ a. a.now.line) (take l.answer-index l.answers)
