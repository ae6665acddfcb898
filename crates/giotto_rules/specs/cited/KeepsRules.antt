-- A program that keeps each of the eleven rules.
use Rattle.std.specs.Prelude.{◌≡◌, Bool, true}
use Rattle.std.specs.List.{AllByRecursion}
use Rattle.giotto_text.specs.Program.{GiottoProgram}
use Rattle.giotto_rules.specs.Rules.{rules}

-- The program passes the test of each rule.
pub record KeepsRules (p : GiottoProgram) : Type 0 where
  pub each : AllByRecursion (λ (rule : GiottoProgram → Bool). rule p ≡ true) rules
