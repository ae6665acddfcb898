use Rattle.std.proofs.Common.{◌≡◌, ◌++◌, map, take}
use Rattle.std.specs.List.{flat_map}
use Rattle.config_checks.specs.Notes.{as_note, note_of_line, told_of}
use Rattle.config_checks.proofs.notes.add_notes.Given as goal

abbrev pub invariant-loop-line : goal.invariant-loop-line
invariant-loop-line l = map told_of l.notes.items ≡ map told_of l.initial.notes.items ++ map as_note (flat_map (note_of_line l.config l.reader) (take l.line-index l.lines))
