use Rattle.rig_server.proofs.pieces.Pieces.next_piece.Goals as goal
use Rattle.std.proofs.Common.{refl, sym, ◌∙◌, ap, slice_get}
use Rattle.rig_server.proofs.Piecing.{next_noted, next_writes, noted_on}

pub returns-in_err-add_log-clause-calls : goal.returns-in_err-add_log-clause-calls
returns-in_err-add_log-clause-calls g c = λ later seat.
    let first = ap (λ archives. slice_get archives 0) (sym c.deref.ensures.value) ∙ sym c.in-Some.ensures.value in
    noted_on c.args.self.now.calls.rows.items c.add_log.new.self.rows.items c.args.self.now.noted c.add_log.new.noted c.args.self.now.archives.items later c.in-Some.archive.now seat first (rw c.log-2.ensures.entries at (c.add_log.ensures.added seat))

pub returns-clause-text : goal.returns-clause-text
returns-clause-text g c =
    let first = ap (λ archives. slice_get archives 0) (sym c.deref.ensures.value) ∙ sym c.in-Some.ensures.value in
    rw c.remove-archive.ensures.items (next_writes c.args.self.now.config.now c.args.self.now.tick c.next_tick-self.result c.args.self.now.archives.items c.in-Some.archive.now c.args.self.now.piece c.in_ok-piece.piece c.requires first
    (rw c.log.ensures.entries at c.in_ok-piece.ensures.left) (rw (c.log.ensures.entries, ← c.next_tick-self.ensures) at c.in_ok-piece.ensures.next_tick))

pub returns-clause-calls : goal.returns-clause-calls
returns-clause-calls g c = λ later seat.
    let first = ap (λ archives. slice_get archives 0) (sym c.deref.ensures.value) ∙ sym c.in-Some.ensures.value in
    rw c.remove-archive.ensures.items (next_noted c.args.self.now.calls.rows.items c.add_log.new.self.rows.items c.args.self.now.noted c.add_log.new.noted c.args.self.now.archives.items later c.in-Some.archive.now seat first
    (rw c.log-2.ensures.entries at (c.add_log.ensures.added seat)) (rw c.log-2.ensures.entries at (c.in_ok-add_log.ensures.whole)))
