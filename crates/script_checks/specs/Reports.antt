-- What is reported about a script.
use Rattle.std.specs.Prelude.{◌≡◌, ℕ, Bool, if◌then◌else◌, List, [], ◌∷◌, ◌++◌, length, Option, IfSome, codes, string_bytes}
use Rattle.std.specs.Fmt.{decimal}
use Rattle.giotto_faults.specs.declared.findings.Finding.{Finding}
use Rattle.giotto_faults.specs.declared.places.Place.{Place}
use Rattle.giotto_reports.specs.declared.Report.{Report}
use Rattle.rig_model.specs.config.Roster.{Rig}
use Rattle.rig_model.specs.TextLines.{cut}
use Rattle.script_checks.specs.Grants.{AreNotes, Told, notes_of}
use Rattle.script_checks.specs.Scripts.{is_good}
use Rattle.script_checks.specs.Told.{AreShown, IsReportOnLines}

-- exactly these findings about a file are added to a text
abbrev pub Adds : List ℕ → List (Place × Finding) → List ℕ → List ℕ → Type 0
Adds file found before after = (shown : List ℕ) × AreShown file found shown × (after ≡ before ++ shown)

-- exactly these notes are added to a text
abbrev pub AddsNotes : List ℕ → List Told → List ℕ → List ℕ → Type 0
AddsNotes file told before after = (notes : List (Place × Finding)) × AreNotes told notes × Adds file notes before after

-- "FILE: lines LINES" and LF for a script with this many lines, if none of them is at fault
abbrev pub told_first : List ℕ → ℕ → Bool → List ℕ
told_first file lines good = if good then file ++ (codes ": lines " ++ (decimal lines ++ 10 ∷ [])) else []

-- what is reported about a script of these lines: how many there are, if none is at fault; what is found in exactly the lines at
-- fault, in their order; and after that exactly the notes on offers and binds
abbrev pub IsToldOf : Rig → List ℕ → List (List ℕ) → List ℕ → Type 0
IsToldOf config file lines told =
    (faults : List ℕ) × IsReportOnLines config file 1 lines faults × AddsNotes file (notes_of config lines) (told_first file (length lines) (is_good config lines) ++ faults) told

-- a report on a script of these lines, which is good exactly if no line is at fault
abbrev pub IsReportOf : Rig → List ℕ → List (List ℕ) → Report → Type 0
IsReportOf config file lines report = (report.is_good ≡ is_good config lines) × IsToldOf config file lines (string_bytes report.text)

-- a report on all bytes that a reader has, if these are known; of another reader, on some bytes
abbrev pub IsReportOfAll : Rig → List ℕ → Option (List ℕ) → Report → Type 0
IsReportOfAll config file known report = (bytes : List ℕ) × IfSome known (λ all. all ≡ bytes) × IsReportOf config file (cut bytes) report
