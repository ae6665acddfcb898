-- What the code that reads returns, compared with what reading gives.
use Rattle.std.specs.Prelude.{◌≡◌, Result, Ok, Err}
use Rattle.plant_couplings.specs.declared.faults.PlantFault.{PlantFault}
use Rattle.plant_couplings.specs.declared.faults.PlantFault.TheVariants.{NotToml, Tables, Missing, Numbers, NoLine, Memory}

-- this fault is what reading gives, unless it is `Memory`
abbrev pub Fails : {A : Type 0} → PlantFault → Result A PlantFault → Type 0
Fails Memory reading = Unit {0}
Fails NotToml reading = reading ≡ Err NotToml
Fails Tables reading = reading ≡ Err Tables
Fails (Missing at) reading = reading ≡ Err (Missing at)
Fails (Numbers at) reading = reading ≡ Err (Numbers at)
Fails (NoLine at) reading = reading ≡ Err (NoLine at)

-- this result is what reading gives, unless memory ran out
abbrev pub Gives : {A : Type 0} → Result A PlantFault → Result A PlantFault → Type 0
Gives (Ok x) reading = reading ≡ Ok x
Gives (Err fault) reading = Fails fault reading
