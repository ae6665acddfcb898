-- What is wrong with the lines of a script, by the text of each alone.
use Rattle.std.specs.Prelude.{ℕ, ◌==◌, Bool, false, not, nat_le, if◌then◌else◌, List, length, Option, Some, None, is_some, is_none, Result, Ok, Err}
use Rattle.std.specs.List.{list_any}
use Rattle.rig_model.specs.text.Program.{GiottoProgram}
use Rattle.rig_model.specs.config.Roster.{Rig, budgets_at, place_of}
use Rattle.rig_model.specs.declared.config.Budgets.{Budgets}
use Rattle.rig_model.specs.lines.CommandLine.{command_of_line}
use Rattle.rig_model.specs.lines.Words.{behind_first_word, words_of}
use Rattle.rig_model.specs.declared.lines.commands.Command.{Command}
use Rattle.rig_model.specs.declared.lines.commands.Command.TheVariants.{Load, Replace, Start, Stop, ShowMode, ShowPort, ShowAll, Trace, Grants}
use Rattle.rig_model.specs.declared.lines.replies.Refusal.{Refusal}
use Rattle.rig_model.specs.Admission.{broken_budget, program_of}
use Rattle.rig_model.specs.OperatorLines.{OperatorForm, blank, tick, line_values, work, work_of, settle, archive, halt, bad_command, operator_line_of}
use Rattle.rig_model.specs.Script.{speaker_of}
use Rattle.rig_model.specs.TextLines.{text_of_line}
use Rattle.rig_model.specs.declared.limits.TheConstants.{MAX_LINE}
use Rattle.rig_model.specs.declared.speakers.Speaker.{Speaker}
use Rattle.rig_model.specs.declared.speakers.Speaker.TheVariants.{Nobody, Operator, Tenant, Unknown}
use Rattle.script_checks.specs.declared.lines.LineFault.{LineFault}
use Rattle.script_checks.specs.declared.lines.LineFault.TheVariants.{TooLong, NotText, UnknownSpeaker, BadCommand, BadFrame, UnknownTenant, Program}

-- whether the text spells a program that a tenant with these budgets may load
abbrev pub is_let_in : Budgets → List ℕ → Bool
is_let_in budgets text = by (program_of text)
  where
    by : Result GiottoProgram Refusal → Bool
    by (Err refusal) = false
    by (Ok p) = is_none (broken_budget budgets (length text) p)

-- what is wrong with the program of a text, if anything is
abbrev pub fault_of_program : Budgets → List ℕ → Option LineFault
fault_of_program budgets text = if is_let_in budgets text then None else Some Program

-- what is wrong with a tenant's command, whatever the tenant is doing
abbrev pub fault_of_command : Budgets → Option Command → Option LineFault
fault_of_command budgets None = Some BadCommand
fault_of_command budgets (Some (Load text)) = fault_of_program budgets text
fault_of_command budgets (Some (Replace text)) = fault_of_program budgets text
fault_of_command budgets (Some Start) = None
fault_of_command budgets (Some Stop) = None
fault_of_command budgets (Some ShowMode) = None
fault_of_command budgets (Some (ShowPort port)) = None
fault_of_command budgets (Some ShowAll) = None
fault_of_command budgets (Some Trace) = None
fault_of_command budgets (Some (Grants command)) = None

-- what is wrong with an operator's line: a tick has a value for each line of the rig
abbrev pub fault_of_operator : Rig → OperatorForm → Option LineFault
fault_of_operator config blank = Some BadCommand
fault_of_operator config (tick values) = if length values == config.lines then None else Some BadFrame
fault_of_operator config line_values = None
fault_of_operator config work = None
fault_of_operator config (work_of name) = if is_some (place_of config name) then None else Some UnknownTenant
fault_of_operator config settle = Some BadCommand
fault_of_operator config archive = Some BadCommand
fault_of_operator config halt = Some BadCommand
fault_of_operator config bad_command = Some BadCommand

-- what is wrong with the text of a line, by its speaker
abbrev pub fault_of_speech : Rig → List ℕ → Speaker → Option LineFault
fault_of_speech config text Nobody = None
fault_of_speech config text Operator = fault_of_operator config (operator_line_of (words_of (behind_first_word text)))
fault_of_speech config text (Tenant t) = fault_of_command (budgets_at config t) (command_of_line (behind_first_word text))
fault_of_speech config text Unknown = Some UnknownSpeaker

-- what is wrong with a line, if anything is
abbrev pub fault_of_line : Rig → List ℕ → Option LineFault
fault_of_line config line = by (text_of_line line)
  where
    by : Option (List ℕ) → Option LineFault
    by None = Some (if nat_le (length line) MAX_LINE then NotText else TooLong)
    by (Some text) = fault_of_speech config text (speaker_of config text)

-- no line of these is at fault
abbrev pub is_good : Rig → List (List ℕ) → Bool
is_good config lines = not (list_any (λ line. is_some (fault_of_line config line)) lines)
