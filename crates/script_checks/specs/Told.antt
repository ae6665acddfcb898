-- What is found in the lines at fault of a script, and how it is shown.
use Rattle.std.specs.Prelude.{◌≡◌, ◌≢◌, ◌⊎◌, ℕ, ◌+◌, ◌-◌, List, [], ◌∷◌, ◌++◌, length, slice_get, map, Option, Some, None}
use Rattle.giotto_faults.specs.declared.findings.Finding.{Finding}
use Rattle.giotto_faults.specs.declared.places.Place.{Place}
use Rattle.program_checks.specs.faults.Findings.{BeginsWith, head_at}
use Rattle.program_checks.specs.reports.Reports.{TellWhy}
use Rattle.giotto_reports.specs.declared.Wish.TheVariants.{Summary}
use Rattle.program_checks.specs.Programs.{TellOver}
use Rattle.rig_model.specs.config.Roster.{Rig}
use Rattle.rig_model.specs.declared.config.TenantConfig.{TenantConfig}
use Rattle.rig_model.specs.Script.{speaker_of}
use Rattle.rig_model.specs.declared.speakers.Speaker.TheVariants.{Tenant}
use Rattle.rig_model.specs.lines.CommandLine.{command_of_line}
use Rattle.rig_model.specs.lines.Words.{behind_first_word}
use Rattle.rig_model.specs.declared.lines.commands.Command.{Command}
use Rattle.rig_model.specs.declared.lines.commands.Command.TheVariants.{Load, Replace, Start, Stop, ShowMode, ShowPort, ShowAll, Trace, Grants}
use Rattle.script_checks.specs.Scripts.{fault_of_line}
use Rattle.script_checks.specs.LineTexts.{IsErrorAt, offset_of_fault, place_in, text_or_none, words_of_fault}
use Rattle.script_checks.specs.declared.lines.Found.{Found}
use Rattle.script_checks.specs.declared.lines.LineFault.{LineFault}
use Rattle.script_checks.specs.declared.lines.LineFault.TheVariants.{TooLong, NotText, UnknownSpeaker, BadCommand, BadFrame, UnknownTenant, Program}

-- the text of the program that a command passes
abbrev pub program_in : Option Command → Option (List ℕ)
program_in (Some (Load text)) = Some text
program_in (Some (Replace text)) = Some text
program_in (Some Start) = None
program_in (Some Stop) = None
program_in (Some ShowMode) = None
program_in (Some (ShowPort port)) = None
program_in (Some ShowAll) = None
program_in (Some Trace) = None
program_in (Some (Grants command)) = None
program_in None = None

-- the first type for the fault of a program, and the second for any other fault
abbrev pub of_fault : LineFault → Type 0 → Type 0 → Type 0
of_fault Program program other = program
of_fault TooLong program other = other
of_fault NotText program other = other
of_fault UnknownSpeaker program other = other
of_fault BadCommand program other = other
of_fault BadFrame program other = other
of_fault UnknownTenant program other = other

-- exactly one finding: an error at the place of the fault of a line with this text, in the fault's words
abbrev pub IsOneFinding : Rig → List ℕ → Found → Type 0
IsOneFinding config text found =
    (found.fault ≢ Program) × (found.before ≡ 0)
    × ((f : Finding) × (found.findings.items ≡ f ∷ []) × IsErrorAt (offset_of_fault text found.fault) (words_of_fault config text found.fault) f)

-- the findings say why the host refuses this program, with which the text of a line ends, to a tenant: it isn't well-formed, or
-- it exceeds a budget
abbrev pub TellProgram : TenantConfig → List ℕ → List ℕ → Found → Type 0
TellProgram tenant text program found =
    (found.fault ≡ Program) × (found.before ≡ length text - length program) × (TellWhy program found.findings.items ⊎ TellOver tenant Summary program found.findings.items)

-- the same for the program that a tenant's line with this text passes
abbrev pub TellBrought : TenantConfig → List ℕ → Found → Type 0
TellBrought tenant text found = (program : List ℕ) × (program_in (command_of_line (behind_first_word text)) ≡ Some program) × TellProgram tenant text program found

-- what was found in a line reports its fault; only a tenant's line passes a program
abbrev pub TellLine : Rig → List ℕ → Found → Type 0
TellLine config line found =
    of_fault found.fault ((t : ℕ) × (tenant : TenantConfig) × (speaker_of config text ≡ Tenant t) × (slice_get config.tenants t ≡ Some tenant) × TellBrought tenant text found) (IsOneFinding config text found)
  where
    text : List ℕ
    text = text_or_none line

-- findings about the end of a line, each with its place
abbrev pub findings_in : ℕ → List ℕ → ℕ → List Finding → List (Place × Finding)
findings_in number line before findings = map (λ (f : Finding). (place_in number line (before + f.offset), f)) findings

-- a text has a part for each of these findings, in their order, and each part begins with "FILE:LINE:COLUMN: SEVERITY: MESSAGE" and LF
abbrev pub AreShown : List ℕ → List (Place × Finding) → List ℕ → Type 0
AreShown file [] text = text ≡ []
AreShown file (found ∷ others) text = (part : List ℕ) × (later : List ℕ) × (text ≡ part ++ later) × BeginsWith (head_at found.1 file found.0) part × AreShown file others later

-- what is reported about the line with this number: nothing if it isn't at fault, or else a part for each finding about its fault
abbrev pub IsReportOnLine : Rig → List ℕ → ℕ → List ℕ → List ℕ → Type 0
IsReportOnLine config file number line text = by (fault_of_line config line)
  where
    by : Option LineFault → Type 0
    by None = text ≡ []
    by (Some fault) = (found : Found) × (found.fault ≡ fault) × TellLine config line found × AreShown file (findings_in number line found.before found.findings.items) text

-- what is reported about these lines, in their order; the first of them has this number
abbrev pub IsReportOnLines : Rig → List ℕ → ℕ → List (List ℕ) → List ℕ → Type 0
IsReportOnLines config file number [] text = text ≡ []
IsReportOnLines config file number (line ∷ lines) text =
    (first : List ℕ) × (others : List ℕ) × IsReportOnLine config file number line first × IsReportOnLines config file (number + 1) lines others × (text ≡ first ++ others)
