-- What holds for a checked program, and for what is kept with it.
use Rattle.std.specs.Prelude.{◌≡◌, ℕ, ◌-◌, ◌^◌, min}
use Rattle.giotto_rules.specs.text.Program.{GiottoProgram}
use Rattle.giotto_rules.specs.cited.KeepsRules.{KeepsRules}
use Rattle.giotto_rules.specs.Costs.{greatest_cost_of}
use Rattle.giotto_check.specs.cited.Facts.{ProgramFits}
use Rattle.giotto_check.specs.cited.Timetables.{IsNumbering}
use Rattle.giotto_check.specs.declared.numbering.Numbering.{Numbering}

-- a well-formed program with its greatest cost and its numbering
pub record IsChecked (p : GiottoProgram) (cost : ℕ) (numbering : Numbering) : Type 0 where
  pub rules : KeepsRules p
  pub fits : ProgramFits p
  pub greatest_cost : cost ≡ min (greatest_cost_of p) (2 ^ 64 - 1)
  pub numbered : IsNumbering p numbering
