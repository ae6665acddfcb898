use Rattle.locked_book.proofs.NextStarts.{RisesUpTo}
use Rattle.locked_book.proofs.windows.next_window.Given as goal

abbrev pub invariant-loop-i : goal.invariant-loop-i
invariant-loop-i l = RisesUpTo l.entries l.from l.i l.highest l.start
