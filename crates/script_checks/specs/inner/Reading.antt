-- A script that is read line by line.
use Rattle.std.specs.Prelude.{◌≡◌, ◌≢◌, ℕ, Bool, true, false, List, [], ◌∷◌, ◌++◌, length, Option, IfSome, string_bytes}
use Rattle.std.specs.Io.KnownBytes.{Consumes, IsAtEnd}
use Rattle.std.specs.List.{All}
use Rattle.rig_model.specs.config.Roster.{Rig}
use Rattle.rig_model.specs.TextLines.{cut}
use Rattle.script_checks.specs.Grants.{said_from}
use Rattle.script_checks.specs.Scripts.{is_good}
use Rattle.script_checks.specs.Told.{IsReportOnLines}
use Rattle.script_checks.specs.declared.scripts.CheckedLines.{CheckedLines}
use Rattle.script_checks.specs.inner.Facts.{AreKept}

abbrev pub HasNoLf : List ℕ → Type 0
HasNoLf line = All (λ c. c ≢ 10) line

-- a line as it was read, with its LF if it has one
abbrev pub with_lf : Bool → List ℕ → List ℕ
with_lf true line = line ++ 10 ∷ []
with_lf false line = line

-- a reader gave the next line; one without LF is all that was left
abbrev pub IsNextLine : Option (List ℕ) → Option (List ℕ) → Bool → List ℕ → Type 0
IsNextLine old new whole line = HasNoLf line × Consumes old new (with_lf whole line) × (whole ≡ false → IfSome old (λ all. IsAtEnd new))

-- what was found in these lines, the first of which has the number 1
abbrev pub AreChecked : Rig → List ℕ → List (List ℕ) → CheckedLines → Type 0
AreChecked config file lines checked = (checked.is_good ≡ is_good config lines) × IsReportOnLines config file 1 lines (string_bytes checked.faults) × AreKept config (said_from config 1 lines) checked.grants

-- this number of lines was read and checked, each with its LF
abbrev pub IsReadSoFar : Rig → List ℕ → Option (List ℕ) → ℕ → Option (List ℕ) → CheckedLines → Type 0
IsReadSoFar config file old count now checked =
    (taken : List ℕ) × (lines : List (List ℕ)) × Consumes old now taken × (length lines ≡ count) × ((rest : List ℕ) → cut (taken ++ rest) ≡ lines ++ cut rest) × AreChecked config file lines checked
