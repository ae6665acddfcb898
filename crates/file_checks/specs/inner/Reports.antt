-- The report on a script that is read.
use Rattle.std.specs.Prelude.{ℕ, List, ⊤, string_bytes}
use Rattle.giotto_reports.specs.declared.Report.{Report}
use Rattle.rig_files.specs.declared.inputs.ScriptInput.{ScriptInput}
use Rattle.rig_files.specs.declared.inputs.ScriptInput.TheVariants as input
use Rattle.rig_model.specs.TextLines.{cut}
use Rattle.rig_model.specs.config.Roster.{Rig}
use Rattle.script_checks.specs.Reports.{IsReportOf}

-- a report on a run is the one on its script. Nothing is said of other scripts, whose bytes aren't known
abbrev pub IsReportOn : Rig → List ℕ → ScriptInput → Report → Type 0
IsReportOn config name (input.Run run) report = IsReportOf config name (cut (string_bytes run.script)) report
IsReportOn config name input.Standard report = ⊤
IsReportOn config name (input.File path) report = ⊤
