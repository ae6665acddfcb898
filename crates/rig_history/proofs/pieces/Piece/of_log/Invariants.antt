use Rattle.std.proofs.Common.{string_bytes, drop}
use Rattle.rig_history.proofs.Following.{GoesOn}
use Rattle.rig_history.proofs.pieces.Piece.of_log.Given as goal

abbrev pub invariant-loop-entry : goal.invariant-loop-entry
invariant-loop-entry l = GoesOn l.config l.tick l.log (string_bytes l.text) l.next_tick (drop l.entry-index l.log)
