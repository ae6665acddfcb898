-- What is reported of a file whose program was refused.
use Rattle.std.specs.Prelude.{◌≡◌, ℕ, false, true, List, Option, Some, None, string_bytes}
use Rattle.giotto_reports.specs.Reports.{Tells}
use Rattle.giotto_reports.specs.declared.Report.{Report}
use Rattle.giotto_reports.specs.declared.Wish.TheVariants.{Summary}

-- the text of a report if something is wrong with the file, and else nothing
abbrev pub IsFaulty : Report → Option (List ℕ) → Type 0
IsFaulty report None = report.is_good ≡ true
IsFaulty report (Some text) = (report.is_good ≡ false) × (text ≡ string_bytes report.text)

-- this is what a true report says is wrong with a file of this name and this text
abbrev pub AreFindingsIn : List ℕ → List ℕ → Option (List ℕ) → Type 0
AreFindingsIn path source found = (report : Report) × Tells path source Summary report × IsFaulty report found

-- this is the text of a true report on a file of this name, in which something is wrong
abbrev pub AreFindingsOn : List ℕ → List ℕ → Type 0
AreFindingsOn path text = (source : List ℕ) × AreFindingsIn path source (Some text)
