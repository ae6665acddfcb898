use Rattle.std.proofs.Common.{◌≡◌, ◌++◌, drop, map}
use Rattle.config_checks.specs.Notes.{as_note, notes_from, notes_on, told_of}
use Rattle.config_checks.proofs.notes.notes_of.Given as goal

abbrev pub invariant-loop-place : goal.invariant-loop-place
invariant-loop-place l = map told_of l.notes.items ++ map as_note (notes_from l.config l.place (drop l.place l.config.tenants)) ≡ map as_note (notes_on l.config)
