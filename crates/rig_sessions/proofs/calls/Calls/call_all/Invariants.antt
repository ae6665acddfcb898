use Rattle.std.proofs.Common.{◌≡◌, Ok, take}
use Rattle.locked_book.specs.Books.{AreCalled}
use Rattle.rig_sessions.proofs.calls.Calls.call_all.Given as goal

abbrev pub invariant-loop-command : goal.invariant-loop-command
invariant-loop-command g l =
    record {
      seat : l.pass.seat ≡ l.initial.pass.seat;
      called : AreCalled l.tenant (take l.command-index l.commands) (Ok tt) l.initial.pass l.pass;
    }
