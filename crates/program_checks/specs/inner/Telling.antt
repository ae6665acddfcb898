-- Findings about a budget, to which more are added.
use Rattle.std.specs.Prelude.{ℕ, List, ◌++◌}
use Rattle.giotto_faults.specs.declared.findings.Finding.{Finding}
use Rattle.giotto_reports.specs.Parts.{ProgramPart, invocation, switch, update}
use Rattle.rig_model.specs.text.ProgramTrees.{invocation_of, mode_of, switch_of, update_of}
use Rattle.rig_model.specs.declared.text.programs.Invocation.{Invocation}
use Rattle.rig_model.specs.declared.text.programs.Mode.{Mode}
use Rattle.rig_model.specs.declared.text.programs.Switch.{Switch}
use Rattle.rig_model.specs.declared.text.programs.Update.{Update}
use Rattle.program_checks.specs.Excess.{AreOver}
use Rattle.rig_model.specs.declared.lines.replies.Budget.{Budget}

-- if the findings before report any words about a budget, those after report the same words followed by these
abbrev pub AreTold : Budget → List (List ℕ) → List Finding → List Finding → Type 0
AreTold budget more before after = (words : List (List ℕ)) → AreOver budget words before → AreOver budget (words ++ more) after

-- an update, a switch or an invocation of a mode, as a part of its program
abbrev pub update_in : Mode → Update → ProgramPart
update_in m u = update (mode_of m) (update_of u)

abbrev pub switch_in : Mode → Switch → ProgramPart
switch_in m s = switch (mode_of m) (switch_of s)

abbrev pub invocation_in : Mode → Invocation → ProgramPart
invocation_in m i = invocation (mode_of m) (invocation_of i)
