-- Examples of texts, and the plants that they declare.
use Rattle.std.proofs.Common.{◌≡◌, true, false, [], ◌∷◌, Some, None, refl}
use Rattle.std.specs.Prelude.{codes, Ok, Err}
use Rattle.toml.proofs.OnLiterals.{toml_on_literals}
use Rattle.plant_couplings.specs.Couplings.{is_coupled, undeclared}
use Rattle.plant_couplings.specs.Fields.{field_at}
use Rattle.plant_couplings.specs.Reading.{coupling_of, plant_in, plant_of}
use Rattle.plant_couplings.specs.declared.couplings.Plant.{Plant}
use Rattle.plant_couplings.specs.declared.faults.PlantFault.TheVariants.{NotToml, Tables, Missing, Numbers, NoLine}
use Rattle.plant_couplings.specs.declared.faults.PlantField.TheVariants as field

-- line 3 to lines 0 and 1
valve : Plant
valve = record { couplings = Some (record { from = 3 ∷ []; to = 0 ∷ 1 ∷ [] } ∷ []) }

one_table : plant_of 4 (codes "lines = 4\n[[plant]]\nfrom = [3]\nto = [0, 1]\n") ≡ Ok valve
unfolding toml_on_literals plant_in coupling_of valve
one_table = refl

forwards : is_coupled valve 3 1 ≡ true
unfolding valve
forwards = refl

backwards : is_coupled valve 1 3 ≡ false
unfolding valve
backwards = refl

-- without `plant`, each line may be coupled to each
no_table : plant_of 4 (codes "lines = 4") ≡ Ok undeclared
unfolding toml_on_literals plant_in
no_table = refl

each_to_each : is_coupled undeclared 1 3 ≡ true
each_to_each = refl

-- a plant without tables couples nothing
empty_array : plant_of 4 (codes "plant = []") ≡ Ok (record { couplings = Some [] })
unfolding toml_on_literals plant_in
empty_array = refl

one_bare_table : plant_of 4 (codes "[plant]\nfrom = [3]\nto = [0]") ≡ Err Tables
unfolding toml_on_literals plant_in
one_bare_table = refl

misspelled : plant_of 4 (codes "[[plant]]\nform = [3]\nto = [0]") ≡ Err (Missing (field_at 0 field.From))
unfolding toml_on_literals plant_in coupling_of
misspelled = refl

one_number : plant_of 4 (codes "[[plant]]\nfrom = [3]\nto = 0") ≡ Err (Numbers (field_at 0 field.To))
unfolding toml_on_literals plant_in coupling_of
one_number = refl

-- the line that isn't there comes before the missing field
no_such_line : plant_of 4 (codes "[[plant]]\nfrom = [0]\nto = [3]\n[[plant]]\nfrom = [4]") ≡ Err (NoLine (field_at 1 field.From))
unfolding toml_on_literals plant_in coupling_of
no_such_line = refl

no_toml : plant_of 4 (codes "=") ≡ Err NotToml
unfolding toml_on_literals
no_toml = refl
