use Rattle.locked_book.proofs.MarkBits.{is_marked, no_other_marked}
use Rattle.locked_book.proofs.windows.mark.Goals as goal

pub returns-clause-marked : goal.returns-clause-marked
returns-clause-marked c = λ within. is_marked c.args.marks.now c.args.start c.args.place c.told-marks c.if-place-start.false c.if-place-start-ge-WINDOW.false

pub returns-clause-others : goal.returns-clause-others
returns-clause-others c = no_other_marked c.args.marks.now c.args.start c.args.place c.told-marks c.if-place-start.false c.if-place-start-ge-WINDOW.false
