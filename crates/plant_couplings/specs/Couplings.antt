-- Which driven lines of a rig can change which read lines, through its plant.
use Rattle.std.specs.Prelude.{ℕ, Bool, true, ◌&&◌, None}
use Rattle.std.specs.List.{list_any}
use Rattle.std.specs.Option.{option_map_or}
use Rattle.plant_couplings.specs.declared.couplings.Coupling.{Coupling}
use Rattle.plant_couplings.specs.declared.couplings.Plant.{Plant}
use Rattle.rig_model.specs.config.Roster.{may_use}
use Rattle.rig_model.specs.declared.config.TenantConfig.{TenantConfig}

-- a table couples what is driven on line j to what is read on line k
abbrev pub couples : Coupling → ℕ → ℕ → Bool
couples c j k = may_use c.from j && may_use c.to k

-- What is driven on line j can change what is read on line k: a table couples them, or the plant isn't declared.
abbrev pub is_coupled : Plant → ℕ → ℕ → Bool
is_coupled plant j k = option_map_or (list_any (λ (c : Coupling). couples c j k)) plant.couplings true

-- the plant of a configuration that doesn't declare it
abbrev pub undeclared : Plant
undeclared = record { couplings = None }

-- what one tenant may drive can change what another may read
abbrev pub can_change : Plant → TenantConfig → TenantConfig → Bool
can_change plant driver reader = list_any (λ j. list_any (is_coupled plant j) reader.budgets.reads) driver.budgets.writes
