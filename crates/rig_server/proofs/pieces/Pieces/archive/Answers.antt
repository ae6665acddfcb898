use Rattle.std.proofs.Common.{[], ◌∷◌, ◌∙◌, ap, append-nil, length, refl, sym}
use Rattle.std.proofs.lemmas.Result.{err_from_is_err_and}
use Rattle.rig_server.proofs.Piecing.{writes_none}
use Rattle.rig_server.proofs.pieces.Pieces.archive.Goals as goal

pub returns-in_err-entries-clause-taken : goal.returns-in_err-entries-clause-taken
returns-in_err-entries-clause-taken g c =
    let old = c.args.self.now in
    let given = c.in_err-entries.ensures in
    let same = append-nil old.archives.items in (
      [],
      (let failed = err_from_is_err_and c.from_residual.result c.from_residual.ensures.1 in rw failed.1 tt),
      (λ _. refl),
      rw (same, given.refused, given.piece.0, given.piece.1, given.piece.3) (writes_none old.config.now old.piece old.tick old.archives.items (g.F.Write.contents old.file)),
      (λ later seat. rw (same, given.refused, given.calls.0, given.calls.1) refl),
    )

pub returns-clause-taken : goal.returns-clause-taken
returns-clause-taken g c =
    let given = c.in_ok-entries.ensures in
    let archive = given.taken.0 in (
      archive ∷ [],
      given.taken.2 ∙ ap length (sym (append-nil archive.log)),
      (λ e. absurd (cc)),
      rw (given.taken.3, given.piece.0, given.piece.1, given.piece.2, given.piece.3) at c.write.ensures.text,
      (λ later seat. rw (given.taken.3, given.calls.0, given.calls.1) at (c.write.ensures.calls later seat)),
    )
