use Rattle.std.proofs.Common.{◌≡◌, ◌++◌, map, take}
use Rattle.std.specs.List.{flat_map}
use Rattle.config_checks.specs.Notes.{as_note, told_of}
use Rattle.config_checks.specs.Plants.{unfed_of}
use Rattle.config_checks.proofs.plants.add_plant_notes.Given as goal

abbrev pub invariant-loop-place : goal.invariant-loop-place
invariant-loop-place l = map told_of l.notes.items ≡ map told_of l.initial.notes.items ++ map as_note (flat_map (unfed_of l.plant) (take l.place l.config.tenants))
