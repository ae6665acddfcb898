-- The configuration of a rig as one supplier may have it: all fields, but only the supplier's own key.
use Rattle.std.specs.Prelude.{ℕ, ◌==◌, if◌then◌else◌, List, [], ◌∷◌, ◌++◌, Option, None, Some, codes}
use Rattle.std.specs.Char.{encode_utf8}
use Rattle.std.specs.Fmt.{decimal, signed_decimal}
use Rattle.std.specs.List.{flat_map}
use Rattle.giotto_tasks.specs.Names.{same_name}
use Rattle.plant_couplings.specs.declared.couplings.Coupling.{Coupling}
use Rattle.program_checks.specs.Numbers.{text_of_numbers}
use Rattle.rig_model.specs.config.Intervals.{Interval}
use Rattle.rig_model.specs.config.Roster.{Rig, name_at}
use Rattle.rig_model.specs.declared.config.Budgets.{Budgets}
use Rattle.rig_model.specs.declared.config.TenantConfig.{TenantConfig}

-- a character of a TOML string: `"` and `\` have a `\` before them
abbrev pub escaped : ℕ → List ℕ
escaped c = if c == 34 then codes "\\\"" else (if c == 92 then codes "\\\\" else encode_utf8 c)

-- a TOML string of these characters, as in "k-pump-81", with its quotes
abbrev pub in_quotes : List ℕ → List ℕ
in_quotes characters = codes "\"" ++ (flat_map escaped characters ++ codes "\"")

-- a TOML array, as in "[0, 2]", and "[]" if there are no numbers
abbrev pub array_of : List ℕ → List ℕ
array_of [] = codes "[]"
array_of (n ∷ ns) = codes "[" ++ (text_of_numbers (n ∷ ns) ++ codes "]")

-- the key that the supplier is shown: its own, and `hidden` for that of each other tenant
abbrev pub shown_key : List ℕ → TenantConfig → List ℕ
shown_key supplier tenant = if same_name tenant.name supplier then tenant.key else codes "hidden"

-- the comment with the supplier's name, the version and the number of lines
abbrev pub head_for : List ℕ → ℕ → List ℕ
head_for supplier lines =
    codes "# For " ++ (supplier ++ (codes ", made by `rig_host config`: the keys of the other tenants are hidden.\nversion = 2\nlines = " ++ (decimal lines ++ codes "\n")))

-- the beginning of a tenant's table, after an empty line: the name and the shown key
abbrev pub names_for : List ℕ → TenantConfig → List ℕ
names_for supplier tenant =
    codes "\n[[tenant]]\nname = \"" ++ (tenant.name ++ (codes "\"\nkey = " ++ (in_quotes (shown_key supplier tenant) ++ codes "\n")))

-- the lines that a tenant may read and drive
abbrev pub lines_of : Budgets → List ℕ
lines_of b = codes "reads = " ++ (array_of b.reads ++ (codes "\nwrites = " ++ (array_of b.writes ++ codes "\n")))

-- the limits of a program
abbrev pub limits_of : Budgets → List ℕ
limits_of b =
    codes "bytes = " ++ (decimal b.bytes ++ (codes "\nports = " ++ (decimal b.ports ++ (codes "\ntasks = " ++ (decimal b.tasks ++ (codes "\nmodes = " ++ (decimal b.modes
    ++ (codes "\nsteps = " ++ (decimal b.steps ++ codes "\n")))))))))

-- the limits of the trace, of offers and of binds
abbrev pub grants_of : Budgets → List ℕ
grants_of b =
    codes "trace = " ++ (decimal b.trace ++ (codes "\noffers = " ++ (decimal b.offers ++ (codes "\nbinds = " ++ (decimal b.binds ++ codes "\n")))))

-- the least and the greatest value of an offer
abbrev pub bounds_of : Interval → List ℕ
bounds_of bounds = codes "low = " ++ (signed_decimal bounds.low ++ (codes "\nhigh = " ++ (signed_decimal bounds.high ++ codes "\n")))

-- a tenant's budgets
abbrev pub budgets_in_toml : Budgets → List ℕ
budgets_in_toml b = lines_of b ++ (limits_of b ++ (grants_of b ++ bounds_of b.bounds))

-- the table of a tenant, as the supplier may have it
abbrev pub table_for : List ℕ → TenantConfig → List ℕ
table_for supplier tenant = names_for supplier tenant ++ budgets_in_toml tenant.budgets

-- the configuration as the tenant at a place may have it: the head, and a table for each tenant
abbrev pub configuration_for : Rig → ℕ → List ℕ
configuration_for rig t = head_for (name_at rig t) rig.lines ++ flat_map (table_for (name_at rig t)) rig.tenants

-- the table of a plant that couples these lines, after an empty line
abbrev pub coupling_in_toml : List ℕ → List ℕ → List ℕ
coupling_in_toml from to = codes "\n[[plant]]\nfrom = " ++ (array_of from ++ (codes "\nto = " ++ (array_of to ++ codes "\n")))

-- one table of a plant
abbrev pub table_of : Coupling → List ℕ
table_of coupling = coupling_in_toml coupling.from coupling.to

-- the tables of a plant that is declared; one without lines if it couples nothing
abbrev pub couplings_in_toml : List Coupling → List ℕ
couplings_in_toml [] = coupling_in_toml [] []
couplings_in_toml (c ∷ cs) = flat_map table_of (c ∷ cs)

-- the tables of a plant; none if it isn't declared
abbrev pub plant_in_toml : Option (List Coupling) → List ℕ
plant_in_toml None = []
plant_in_toml (Some couplings) = couplings_in_toml couplings
