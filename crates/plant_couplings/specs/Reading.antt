-- How the text of a configuration declares the plant, or the first fault in it.
use Rattle.std.specs.Prelude.{ℕ, ◌+◌, if◌then◌else◌, List, [], ◌∷◌, Option, Some, None, option_map, Result, Ok, Err, codes}
use Rattle.std.specs.Option.{option_and_then, ok_or, option_map_or}
use Rattle.toml.specs.Data.{Data, Items, no_items, item, Members, as_array, as_table, get_member}
use Rattle.toml.specs.Parse.{parse_document}
use Rattle.plant_couplings.specs.Couplings.{undeclared}
use Rattle.plant_couplings.specs.Fields.{field_at, word_of}
use Rattle.plant_couplings.specs.declared.couplings.Coupling.{Coupling}
use Rattle.plant_couplings.specs.declared.couplings.Plant.{Plant}
use Rattle.plant_couplings.specs.declared.faults.PlantField.TheVariants as field
use Rattle.plant_couplings.specs.declared.faults.PlantPlace.{PlantPlace}
use Rattle.plant_couplings.specs.declared.faults.PlantFault.{PlantFault}
use Rattle.plant_couplings.specs.declared.faults.PlantFault.TheVariants.{NotToml, Tables, Missing, Numbers, NoLine}
pub use Rattle.rig_model.specs.config.Ranges.{are_lines}
use Rattle.rig_model.specs.config.Reading.{whole_in}

infixl 10 ◌>>=◌
abbrev pub ◌>>=◌ : {A B : Type 0} → Result A PlantFault → (A → Result B PlantFault) → Result B PlantFault
(Ok x) >>= f = f x
(Err fault) >>= f = Err fault

-- the value of a field
abbrev pub value_of : PlantPlace → Members → Result Data PlantFault
value_of at fields = ok_or (get_member (word_of at.field) fields) (Missing at)

-- the whole numbers of an array
abbrev pub whole_numbers : Items → Option (List ℕ)
whole_numbers no_items = Some []
whole_numbers (item value others) = option_and_then (λ k. option_map (λ ks. k ∷ ks) (whole_numbers others)) (whole_in value)

abbrev pub numbers_in : Data → Option (List ℕ)
numbers_in value = option_and_then whole_numbers (as_array value)

-- these numbers, if a rig with this many lines has them all
abbrev pub lines_only : ℕ → PlantPlace → List ℕ → Result (List ℕ) PlantFault
lines_only lines at ks = if are_lines lines ks then Ok ks else Err (NoLine at)

-- the lines of a field: an array of whole numbers, each below the number of lines
abbrev pub lines_of : ℕ → PlantPlace → Members → Result (List ℕ) PlantFault
lines_of lines at fields = do
  value ← value_of at fields
  ks ← ok_or (numbers_in value) (Numbers at)
  lines_only lines at ks

-- the table at a place
unfoldable pub coupling_of : ℕ → ℕ → Members → Result Coupling PlantFault
coupling_of lines i fields = do
  from ← lines_of lines (field_at i field.From) fields
  to ← lines_of lines (field_at i field.To) fields
  Ok (record { from = from; to = to })

-- the tables from a place on, one after the other
abbrev pub couplings_from : ℕ → ℕ → Items → Result (List Coupling) PlantFault
couplings_from lines i no_items = Ok []
couplings_from lines i (item value others) = do
  fields ← ok_or (as_table value) Tables
  coupling ← coupling_of lines i fields
  couplings ← couplings_from lines (i + 1) others
  Ok (coupling ∷ couplings)

-- the plant of these tables
abbrev pub declared_by : ℕ → Data → Result Plant PlantFault
declared_by lines value = do
  tables ← ok_or (as_array value) Tables
  couplings ← couplings_from lines 0 tables
  Ok (record { couplings = Some couplings })

-- the plant that a document's fields declare
unfoldable pub plant_in : ℕ → Members → Result Plant PlantFault
plant_in lines fields = option_map_or (declared_by lines) (get_member (codes "plant") fields) (Ok undeclared)

-- The plant that a text declares for a rig with this many lines, or the first fault in the order of the checks.
abbrev pub plant_of : ℕ → List ℕ → Result Plant PlantFault
plant_of lines text = option_map_or (plant_in lines) (parse_document text) (Err NotToml)
