use Rattle.std.proofs.Common.{◌≡◌, map, take}
use Rattle.run_comparisons.specs.Answers.{answers_of}
use Rattle.run_comparisons.proofs.answers.answers_of.Given as goal

abbrev pub invariant-loop-answer : goal.invariant-loop-answer
invariant-loop-answer l = map (λ a. a.now) l.found.items ≡ answers_of l.subject (take l.answer-index l.answers)
