use Rattle.std.proofs.Common.{map, rules}
use Rattle.config_checks.proofs.Noting.{line_further}
use Rattle.config_checks.specs.Notes.{note_of_line, told_of}
use Rattle.config_checks.proofs.notes.add_notes.Goals as goal

pub loop-line-preserved : goal.loop-line-preserved
loop-line-preserved c =
    let l = c.loop-line in
    line_further (note_of_line c.args.config.now c.args.reader) c.args.lines.now l.line-index _ (map told_of c.args.notes.now.items) (map told_of l.notes.items) (map told_of c.add_note.new.notes.items)
    l.invariant c.loop-line-test.true (search rules) c.in_ok-add_note.ensures
