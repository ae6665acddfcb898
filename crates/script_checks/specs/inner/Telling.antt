-- What is found in a line.
use Rattle.std.specs.Prelude.{◌≡◌, ℕ, List, Option, option_map}
use Rattle.rig_model.specs.config.Roster.{Rig}
use Rattle.rig_model.specs.declared.config.TenantConfig.{TenantConfig}
use Rattle.script_checks.specs.Told.{IsOneFinding, TellBrought, of_fault}
use Rattle.script_checks.specs.declared.lines.Found.{Found}
use Rattle.script_checks.specs.declared.lines.LineFault.{LineFault}

-- what was found in a tenant's line with this text reports its fault
abbrev pub TellCommand : Rig → TenantConfig → List ℕ → Found → Type 0
TellCommand config tenant text found = of_fault found.fault (TellBrought tenant text found) (IsOneFinding config text found)

-- what was found in a line is this fault, if there is one
abbrev pub IsFound : Option Found → Option LineFault → Type 0
IsFound found fault = option_map (λ (f : Found). f.fault) found ≡ fault
