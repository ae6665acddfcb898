-- The fields of a plant's tables.
use Rattle.std.specs.Prelude.{ℕ, List, codes}
use Rattle.plant_couplings.specs.declared.faults.PlantField.{PlantField}
use Rattle.plant_couplings.specs.declared.faults.PlantField.TheVariants as field
use Rattle.plant_couplings.specs.declared.faults.PlantPlace.{PlantPlace}

-- the word of a field
abbrev pub word_of : PlantField → List ℕ
word_of field.From = codes "from"
word_of field.To = codes "to"

-- a field of the table at a place
abbrev pub field_at : ℕ → PlantField → PlantPlace
field_at i f = record { table = i; field = f }
