-- The summary of a rig: its lines, and its tenants with their budgets.
use Rattle.std.specs.Prelude.{ℕ, List, [], ◌∷◌, ◌++◌, length, codes}
use Rattle.std.specs.Fmt.{decimal, signed_decimal}
use Rattle.std.specs.List.{flat_map}
use Rattle.program_checks.specs.Numbers.{text_of_numbers}
use Rattle.rig_model.specs.config.Intervals.{Interval}
use Rattle.rig_model.specs.config.Roster.{Rig}
use Rattle.rig_model.specs.declared.config.Budgets.{Budgets}
use Rattle.rig_model.specs.declared.config.TenantConfig.{TenantConfig}

-- "FILE: rig lines LINES, tenants TENANTS" and LF
abbrev pub heading_of : List ℕ → Rig → List ℕ
heading_of file rig = file ++ (codes ": rig lines " ++ (decimal rig.lines ++ (codes ", tenants " ++ (decimal (length rig.tenants) ++ 10 ∷ []))))

-- "tenant NAME: may read LINES; may drive LINES" and LF
abbrev pub row_of_lines : TenantConfig → List ℕ
row_of_lines tenant =
    codes "tenant " ++ (tenant.name ++ (codes ": may read " ++ (text_of_numbers tenant.budgets.reads ++ (codes "; may drive " ++ (text_of_numbers tenant.budgets.writes ++ 10 ∷ [])))))

-- "  bytes N, ports N, tasks N, modes N, steps N" and LF
abbrev pub row_of_programs : Budgets → List ℕ
row_of_programs b =
    codes "  bytes " ++ (decimal b.bytes ++ (codes ", ports " ++ (decimal b.ports ++ (codes ", tasks " ++ (decimal b.tasks ++ (codes ", modes " ++ (decimal b.modes
    ++ (codes ", steps " ++ (decimal b.steps ++ 10 ∷ [])))))))))

-- "LOW to HIGH"
abbrev pub words_of_bounds : Interval → List ℕ
words_of_bounds bounds = signed_decimal bounds.low ++ (codes " to " ++ signed_decimal bounds.high)

-- "  trace N, offers N, binds N, offers go from LOW to HIGH" and LF
abbrev pub row_of_grants : Budgets → List ℕ
row_of_grants b =
    codes "  trace " ++ (decimal b.trace ++ (codes ", offers " ++ (decimal b.offers ++ (codes ", binds " ++ (decimal b.binds ++ (codes ", offers go from " ++ (words_of_bounds b.bounds ++ 10 ∷ [])))))))

-- what a tenant may use, in three lines
abbrev pub rows_of_tenant : TenantConfig → List ℕ
rows_of_tenant tenant = row_of_lines tenant ++ (row_of_programs tenant.budgets ++ row_of_grants tenant.budgets)

-- the lines and the tenants of a rig
abbrev pub summary_of : List ℕ → Rig → List ℕ
summary_of file rig = heading_of file rig ++ flat_map rows_of_tenant rig.tenants
