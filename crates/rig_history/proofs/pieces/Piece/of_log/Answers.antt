use Rattle.std.proofs.Common.{string_bytes}
use Rattle.rig_history.proofs.Following.{further}
use Rattle.rig_history.proofs.pieces.Piece.of_log.Goals as goal

pub loop-entry-preserved : goal.loop-entry-preserved
loop-entry-preserved c =
    let l = c.loop-entry in
    further c.args.config.now c.args.tick c.args.log.now l.entry-index c.entry-item.result (string_bytes l.text) (string_bytes c.add_entry.new.text) l.next_tick c.tick_after-next_tick.result
    c.loop-entry-test.true c.entry-item.is l.invariant c.in_ok-add_entry.ensures c.tick_after-next_tick.ensures
