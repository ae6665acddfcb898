use Rattle.locked_book.proofs.WindowMarks.{AreMarked}
use Rattle.locked_book.proofs.windows.is_apart_within.Given as goal

abbrev pub invariant-loop-i : goal.invariant-loop-i
invariant-loop-i l = AreMarked l.entries l.start l.i l.marks
