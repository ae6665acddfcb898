-- When a text is good, and what is reported about it.
use Rattle.std.specs.Prelude.{◌≡◌, ◌≢◌, ◌⊎◌, ℕ, Bool, true, false, List, [], ◌∷◌, ◌++◌, Ok, None, codes, string_bytes}
use Rattle.giotto_faults.specs.declared.faults.ProgramFault.{ProgramFault}
use Rattle.giotto_faults.specs.declared.faults.ProgramFault.TheVariants.{Memory}
use Rattle.giotto_faults.specs.declared.findings.Finding.{Finding}
use Rattle.giotto_breaks.specs.faults.Faults as faults
use Rattle.giotto_breaks.specs.faults.Findings.{BeginsWith, IsErrorAt, TellFault, head_of, offset_told}
use Rattle.giotto_reports.specs.Comments.{one_line}
use Rattle.giotto_breaks.specs.rules.Rules.{first_broken_rule}
use Rattle.giotto_breaks.specs.text.Canonical.{canonical_of}
use Rattle.giotto_breaks.specs.text.Parsing.{parsed}
use Rattle.giotto_breaks.specs.text.Program.{GiottoProgram}
use Rattle.giotto_reports.specs.declared.Examined.{Examined}
use Rattle.giotto_reports.specs.declared.Examined.TheVariants.{Good, Faulty}
use Rattle.giotto_reports.specs.declared.Report.{Report}
use Rattle.giotto_reports.specs.declared.Wish.{Wish}
use Rattle.giotto_reports.specs.declared.Wish.TheVariants.{Summary, Load, Print, Pretty}
use Rattle.giotto_reports.specs.Summaries.{summary_of}

-- the text spells a program that breaks no rule
abbrev pub IsWellFormed : List ℕ → Type 0
IsWellFormed text = (p : GiottoProgram) × (parsed text ≡ Ok p) × (first_broken_rule p ≡ None)

-- exactly one finding: an error, at the place where the fault for which the reader refuses the text is shown
abbrev pub IsUnreadable : List ℕ → List Finding → Type 0
IsUnreadable text findings =
    (fault : ProgramFault) × (fault ≢ Memory) × faults.Tells text fault × ((f : Finding) × (findings ≡ f ∷ []) × IsErrorAt (offset_told text fault) f)

-- findings that begin with an error, about a text that spells a program which breaks a rule
abbrev pub IsBroken : List ℕ → List Finding → Type 0
IsBroken text findings = (p : GiottoProgram) × (parsed text ≡ Ok p) × (first_broken_rule p ≢ None) × TellFault findings

-- the findings say why a text isn't well-formed: it spells no program, or one that breaks a rule
abbrev pub TellWhy : List ℕ → List Finding → Type 0
TellWhy text findings = IsUnreadable text findings ⊎ IsBroken text findings

-- what a text was found to be is true
abbrev pub IsExamined : List ℕ → Examined → Type 0
IsExamined text (Good p) = (parsed text ≡ Ok p) × (first_broken_rule p ≡ None)
IsExamined text (Faulty findings) = (¬ IsWellFormed text) × TellWhy text findings.items

-- the text of a file is well-formed without its comments
abbrev pub IsGood : List ℕ → Type 0
IsGood source = IsWellFormed (one_line source)

-- what is written about a program for this wish: its summary, the line of a script that loads its canonical text, that text, or a
-- text that reads as the program
abbrev pub IsWritten : Wish → GiottoProgram → List ℕ → Type 0
IsWritten Summary p text = text ≡ summary_of p
IsWritten (Load tenant) p text = text ≡ tenant.now ++ codes " load " ++ canonical_of p ++ 10 ∷ []
IsWritten Print p text = text ≡ canonical_of p ++ 10 ∷ []
IsWritten Pretty p text = parsed text ≡ Ok p

-- a text has a part for each finding about this source, in their order, and each part begins with the finding's first line
abbrev pub AreShown : List ℕ → List ℕ → List Finding → List ℕ → Type 0
AreShown file source [] text = text ≡ []
AreShown file source (f ∷ fs) text = (part : List ℕ) × (later : List ℕ) × (text ≡ part ++ later) × BeginsWith (head_of f file source) part × AreShown file source fs later

-- the report on a file is true: if the file is good, it has what was wished about its program; otherwise it has findings that say
-- why the file isn't good
abbrev pub Tells : List ℕ → List ℕ → Wish → Report → Type 0
Tells file source wish report = by report.is_good
  where
    told : List ℕ
    told = string_bytes report.text

    by : Bool → Type 0
    by true = (p : GiottoProgram) × (parsed (one_line source) ≡ Ok p) × (first_broken_rule p ≡ None) × IsWritten wish p told
    by false = (¬ IsGood source) × ((findings : List Finding) × TellWhy (one_line source) findings × AreShown file source findings told)
