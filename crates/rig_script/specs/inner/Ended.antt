-- How a script ended, by its ending and the number of answered lines.
use Rattle.std.specs.Prelude.{ℕ, Option, Some, None}
use Rattle.rig_script.specs.Given.{number_behind}
use Rattle.rig_script.specs.declared.answers.Ending.{Ending}
use Rattle.rig_script.specs.declared.answers.Ending.TheVariants.{Input, BadLine}

-- the number of the line that ended a script, if a line did, given the number of lines that were answered
abbrev pub end_after : Ending → ℕ → Option ℕ
end_after Input answered = None
end_after BadLine answered = Some (number_behind answered)
