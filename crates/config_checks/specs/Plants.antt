-- What is reported about the plant that a configuration declares.
use Rattle.std.specs.Prelude.{◌≡◌, ℕ, ◌+◌, Bool, true, if◌then◌else◌, List, [], ◌∷◌, ◌++◌, codes, string_bytes}
use Rattle.std.specs.Fmt.{decimal}
use Rattle.std.specs.List.{flat_map, list_any}
use Rattle.std.specs.Option.{option_map_or}
use Rattle.giotto_faults.specs.declared.findings.Finding.{Finding}
use Rattle.giotto_faults.specs.declared.findings.Severity.TheVariants.{Error}
use Rattle.plant_couplings.specs.Fields.{word_of}
use Rattle.plant_couplings.specs.declared.couplings.Coupling.{Coupling}
use Rattle.plant_couplings.specs.declared.couplings.Plant.{Plant}
use Rattle.plant_couplings.specs.declared.faults.PlantFault.{PlantFault}
use Rattle.plant_couplings.specs.declared.faults.PlantFault.TheVariants.{NotToml, Tables, Missing, Numbers, NoLine, Memory}
use Rattle.plant_couplings.specs.declared.faults.PlantPlace.{PlantPlace}
use Rattle.rig_model.specs.config.Roster.{Rig, may_use}
use Rattle.rig_model.specs.declared.config.TenantConfig.{TenantConfig}

-- "table N of the plant, counted from 1,"
abbrev pub words_of_table : ℕ → List ℕ
words_of_table i = codes "table " ++ (decimal (i + 1) ++ codes " of the plant, counted from 1,")

-- "`FIELD` of table N of the plant, counted from 1,"
abbrev pub words_of_place : PlantPlace → List ℕ
words_of_place at = codes "`" ++ (word_of at.field ++ (codes "` of " ++ words_of_table at.table))

-- what is wrong
abbrev pub words_of_fault : PlantFault → List ℕ
words_of_fault NotToml = codes "invalid TOML"
words_of_fault Memory = codes "invalid TOML"
words_of_fault Tables = codes "`plant` is no array of tables"
words_of_fault (Missing at) = words_of_table at.table ++ (codes " has no `" ++ (word_of at.field ++ codes "`"))
words_of_fault (Numbers at) = words_of_place at ++ codes " is no array of whole numbers"
words_of_fault (NoLine at) = words_of_place at ++ codes " has a line that isn't there"

-- an error that reports this fault
abbrev pub TellsPlantFault : PlantFault → Finding → Type 0
TellsPlantFault fault f = (f.severity ≡ Error) × (string_bytes f.message ≡ words_of_fault fault)

-- something is coupled to line k, or the plant isn't declared
abbrev pub is_fed : Plant → ℕ → Bool
is_fed plant k = option_map_or (list_any (λ (c : Coupling). may_use c.to k)) plant.couplings true

-- "line LINE may be read by `READER`, but the plant couples nothing to it"
abbrev pub words_of_unfed : ℕ → List ℕ → List ℕ
words_of_unfed line reader = codes "line " ++ (decimal line ++ (codes " may be read by `" ++ (reader ++ codes "`, but the plant couples nothing to it")))

-- the note on a line that the tenant with this name may read
abbrev pub note_of_unfed : Plant → List ℕ → ℕ → List (List ℕ)
note_of_unfed plant reader line = if is_fed plant line then [] else words_of_unfed line reader ∷ []

-- the notes on a tenant
abbrev pub unfed_of : Plant → TenantConfig → List (List ℕ)
unfed_of plant tenant = flat_map (note_of_unfed plant tenant.name) tenant.budgets.reads

-- the notes on a rig with this plant, tenant by tenant
abbrev pub unfed_on : Rig → Plant → List (List ℕ)
unfed_on rig plant = flat_map (unfed_of plant) rig.tenants
