-- When a program is good for a tenant, and what is reported about it.
use Rattle.std.specs.Prelude.{◌≡◌, ◌⊎◌, ℕ, Bool, true, false, List, ◌++◌, length, Ok, Some, None, string_bytes}
use Rattle.giotto_faults.specs.declared.findings.Finding.{Finding}
use Rattle.giotto_reports.specs.Comments.{one_line}
use Rattle.rig_model.specs.text.Canonical.{canonical_of}
use Rattle.rig_model.specs.text.Program.{GiottoProgram}
use Rattle.giotto_reports.specs.declared.Report.{Report}
use Rattle.giotto_reports.specs.declared.Wish.{Wish}
use Rattle.giotto_reports.specs.declared.Wish.TheVariants.{Summary, Load, Print, Pretty}
use Rattle.giotto_reports.specs.Reports.{AreShown, IsWritten, TellWhy}
use Rattle.giotto_reports.specs.Summaries.{summary_of}
use Rattle.rig_model.specs.declared.config.Budgets.{Budgets}
use Rattle.rig_model.specs.declared.config.TenantConfig.{TenantConfig}
use Rattle.rig_model.specs.Admission.{broken_budget, program_of}
use Rattle.rig_model.specs.declared.lines.replies.Budget.{Budget}
use Rattle.program_checks.specs.Budgets.{text_of_budgets}
use Rattle.program_checks.specs.Excess.{AreOver, words_over}

-- how many bytes of a program the host would receive for this wish: those of its canonical text, or those of its file
abbrev pub bytes_wanted : Wish → List ℕ → GiottoProgram → ℕ
bytes_wanted Summary text p = length text
bytes_wanted (Load tenant) text p = length (canonical_of p)
bytes_wanted Print text p = length (canonical_of p)
bytes_wanted Pretty text p = length text

-- the text spells this program, which the host would let a tenant with these budgets load
abbrev pub IsLetIn : Budgets → Wish → List ℕ → GiottoProgram → Type 0
IsLetIn budgets wish text p = (program_of text ≡ Ok p) × (broken_budget budgets (bytes_wanted wish text p) p ≡ None)

-- what is written about a program with this many bytes for a tenant: what was wished, and after a summary its numbers next to the
-- budgets
abbrev pub IsWrittenFor : TenantConfig → ℕ → Wish → GiottoProgram → List ℕ → Type 0
IsWrittenFor tenant bytes Summary p told = told ≡ summary_of p ++ text_of_budgets tenant bytes p
IsWrittenFor tenant bytes (Load name) p told = IsWritten (Load name) p told
IsWrittenFor tenant bytes Print p told = IsWritten Print p told
IsWrittenFor tenant bytes Pretty p told = IsWritten Pretty p told

-- the text spells a program that exceeds a budget of the tenant, and the findings report the first such budget
abbrev pub TellOver : TenantConfig → Wish → List ℕ → List Finding → Type 0
TellOver tenant wish text findings = (p : GiottoProgram) × (budget : Budget) × (program_of text ≡ Ok p)
    × (broken_budget tenant.budgets (bytes_wanted wish text p) p ≡ Some budget) × AreOver budget (words_over tenant (bytes_wanted wish text p) p budget) findings

-- The report on a file is true. It is good exactly if the host would accept the program of its text, and then it has what was
-- wished. Otherwise it has findings that say why the text isn't well-formed, or which budget the program exceeds.
abbrev pub TellsFor : TenantConfig → List ℕ → List ℕ → Wish → Report → Type 0
TellsFor tenant file source wish report = by report.is_good
  where
    text : List ℕ
    text = one_line source

    told : List ℕ
    told = string_bytes report.text

    by : Bool → Type 0
    by true = (p : GiottoProgram) × IsLetIn tenant.budgets wish text p × IsWrittenFor tenant (bytes_wanted wish text p) wish p told
    by false = (¬ ((p : GiottoProgram) × IsLetIn tenant.budgets wish text p))
        × ((findings : List Finding) × (TellWhy text findings ⊎ TellOver tenant wish text findings) × AreShown file source findings told)
