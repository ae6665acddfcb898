use Rattle.std.proofs.Common.{Ok, take}
use Rattle.locked_book.specs.Books.{AreCalled}
use Rattle.locked_book.specs.inner.Books.{AreMade}
use Rattle.locked_book.proofs.desks.make_all.Given as goal

abbrev pub invariant-loop-command : goal.invariant-loop-command
invariant-loop-command g l =
    (called : AreCalled l.tenant (take l.command-index l.commands) (Ok tt) l.initial.pass l.pass) × AreMade called.made l.initial.book l.book l.initial.pass l.pass
