use Rattle.std.proofs.Common.{◌≡◌, ◌++◌, map, take}
use Rattle.std.specs.List.{flat_map}
use Rattle.config_checks.specs.Notes.{as_note, told_of}
use Rattle.config_checks.specs.Plants.{note_of_unfed}
use Rattle.config_checks.proofs.plants.add_unfed_of.Given as goal

abbrev pub invariant-loop-line : goal.invariant-loop-line
invariant-loop-line l = map told_of l.notes.items ≡ map told_of l.initial.notes.items ++ map as_note (flat_map (note_of_unfed l.plant l.tenant.name) (take l.line-index l.line-items))
