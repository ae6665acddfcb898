-- How a program's numbers are reported next to the budgets of a tenant.
use Rattle.std.specs.Prelude.{ℕ, List, [], ◌∷◌, ◌++◌, length, codes}
use Rattle.std.specs.Fmt.{decimal}
use Rattle.rig_model.specs.rules.Ports.{ports_of}
use Rattle.rig_model.specs.text.Program.{GiottoProgram}
use Rattle.rig_model.specs.declared.config.Budgets.{Budgets}
use Rattle.rig_model.specs.declared.config.TenantConfig.{TenantConfig}
use Rattle.rig_model.specs.Admission.{steps_of_program}
use Rattle.program_checks.specs.Numbers.{text_of_numbers}

-- "  WORD: HAS of MAY" and LF
abbrev pub row_of : List ℕ → ℕ → ℕ → List ℕ
row_of word has may = codes "  " ++ (word ++ (codes ": " ++ (decimal has ++ (codes " of " ++ (decimal may ++ 10 ∷ [])))))

-- "  lines: may read LINES; may drive LINES" and LF
abbrev pub row_of_lines : Budgets → List ℕ
row_of_lines budgets = codes "  lines: may read " ++ (text_of_numbers budgets.reads ++ (codes "; may drive " ++ (text_of_numbers budgets.writes ++ 10 ∷ [])))

-- "compared with the budgets of TENANT:" and LF
abbrev pub heading_of : TenantConfig → List ℕ
heading_of tenant = codes "compared with the budgets of " ++ (tenant.name ++ codes ":\n")

-- each number of a program whose text has this many bytes, next to the budget of the tenant, and at the end the lines that the
-- tenant may use
abbrev pub text_of_budgets : TenantConfig → ℕ → GiottoProgram → List ℕ
text_of_budgets tenant bytes p =
    heading_of tenant ++ (row_of (codes "bytes") bytes budgets.bytes ++ (row_of (codes "ports") (length (ports_of p)) budgets.ports
    ++ (row_of (codes "tasks") (length p.tasks) budgets.tasks ++ (row_of (codes "modes") (length p.modes) budgets.modes
    ++ (row_of (codes "steps") (steps_of_program p) budgets.steps ++ row_of_lines budgets)))))
  where
    budgets : Budgets
    budgets = tenant.budgets
