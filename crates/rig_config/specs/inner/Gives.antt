-- What the code that reads returns, compared with what reading gives.
use Rattle.std.specs.Prelude.{◌≡◌, Result, Ok, Err}
use Rattle.rig_config.specs.declared.faults.ConfigFault.{ConfigFault}
use Rattle.rig_config.specs.declared.faults.ConfigFault.TheVariants.{NotToml, Missing, Range, Twice, Memory}

-- this fault is what reading gives, unless it is `Memory`
abbrev pub Fails : {A : Type 0} → ConfigFault → Result A ConfigFault → Type 0
Fails Memory reading = Unit {0}
Fails NotToml reading = reading ≡ Err NotToml
Fails (Missing at) reading = reading ≡ Err (Missing at)
Fails (Range at) reading = reading ≡ Err (Range at)
Fails (Twice f) reading = reading ≡ Err (Twice f)

-- this result is what reading gives, unless memory ran out
abbrev pub Gives : {A : Type 0} → Result A ConfigFault → Result A ConfigFault → Type 0
Gives (Ok x) reading = reading ≡ Ok x
Gives (Err fault) reading = Fails fault reading
