use Rattle.script_checks.proofs.line_texts.shown_in_line.Goals as goal

pub returns : goal.returns
returns c = rw c.place.ensures at c.shown_at.ensures
