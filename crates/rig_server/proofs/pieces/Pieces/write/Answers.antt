use Rattle.std.proofs.Common.{◌∙◌}
use Rattle.rig_server.proofs.Piecing.{writes_next, writes_piece}
use Rattle.rig_server.proofs.pieces.Pieces.write.Goals as goal

pub returns-then-not-write_piece-clause-text : goal.returns-then-not-write_piece-clause-text
returns-then-not-write_piece-clause-text g c =
    let contents = g.F.Write.contents in
    let old = c.args.self.now in
    let at = c.loop-self.self in
    let new = c.write_piece.new.self in
    let given = c.write_piece.ensures in
    rw (given.archives.0, given.archives.1) (writes_piece old.config.now old.piece at.piece new.piece old.tick at.tick old.archives.items at.archives.items (contents old.file) (contents at.file) (contents new.file) c.loop-self.invariant.0 given.text)

pub loop-self-preserved : goal.loop-self-preserved
loop-self-preserved g c =
    let contents = g.F.Write.contents in
    let old = c.args.self.now in
    let at = c.loop-self.self in
    let mid = c.write_piece.new.self in
    let new = c.next_piece.new.self in
    let given = c.write_piece.ensures in
    let config = given.archives.2 ∙ c.loop-self.invariant.2 in
    let next = rw (given.archives.0, given.archives.1, config) at c.next_piece.ensures.text in (
      rw c.next_piece.ensures.rest.1 (writes_next old.config.now old.piece at.piece mid.piece new.piece old.tick at.tick new.tick old.archives.items at.archives.items new.archives.items (contents old.file) (contents at.file) (contents mid.file) c.loop-self.invariant.0 given.text next),
      (λ later seat. (rw (given.calls.0, given.calls.1, given.archives.0) at (c.next_piece.ensures.calls later seat)) ∙ c.loop-self.invariant.1 later seat),
      c.next_piece.ensures.rest.0 ∙ config,
    )

pub returns-in_default-clause-text : goal.returns-in_default-clause-text
returns-in_default-clause-text g c =
    let contents = g.F.Write.contents in
    let old = c.args.self.now in
    let at = c.loop-self.self in
    let mid = c.write_piece.new.self in
    let new = c.next_piece.new.self in
    let given = c.write_piece.ensures in
    let config = given.archives.2 ∙ c.loop-self.invariant.2 in
    let next = rw (given.archives.0, given.archives.1, config) at c.next_piece.ensures.text in
    rw c.next_piece.ensures.rest.1 (writes_next old.config.now old.piece at.piece mid.piece new.piece old.tick at.tick new.tick old.archives.items at.archives.items new.archives.items (contents old.file) (contents at.file) (contents mid.file) c.loop-self.invariant.0 given.text next)

pub returns-clause-text : goal.returns-clause-text
returns-clause-text g c =
    let contents = g.F.Write.contents in
    let old = c.args.self.now in
    let at = c.loop-self.self in
    let new = c.write_piece-2.new.self in
    let given = c.write_piece-2.ensures in
    rw (given.archives.0, given.archives.1) (writes_piece old.config.now old.piece at.piece new.piece old.tick at.tick old.archives.items at.archives.items (contents old.file) (contents at.file) (contents new.file) c.loop-self.invariant.0 given.text)
