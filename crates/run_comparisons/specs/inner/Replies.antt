-- The replies of answers.
use Rattle.std.specs.Prelude.{ℕ, List, map}
use Rattle.run_comparisons.specs.Answers.{RunAnswer}

abbrev pub replies_of : List RunAnswer → List (List ℕ)
replies_of answers = map (λ (a : RunAnswer). a.reply) answers
