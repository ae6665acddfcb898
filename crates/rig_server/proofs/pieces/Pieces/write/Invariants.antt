use Rattle.std.proofs.Common.{◌≡◌, ◌++◌, ℕ, List, length}
use Rattle.std.specs.Io.KnownBytes.{Appends}
use Rattle.locked_book.specs.Books.{ArchiveValue}
use Rattle.rig_server.specs.inner.Pieces.{WritesOn, calls_left}
use Rattle.rig_server.proofs.pieces.Pieces.write.Given as goal

abbrev pub invariant-loop-self : goal.invariant-loop-self
invariant-loop-self g l =
    let contents = g.F.Write.contents in
    WritesOn l.initial.self.config.now l.initial.self.piece l.initial.self.tick l.initial.self.archives.items l.self.piece l.self.tick l.self.archives.items (Appends (contents l.initial.self.file) (contents l.self.file))
    × ((later : List ArchiveValue) (seat : ℕ) → calls_left l.self.calls.rows.items l.self.noted (l.self.archives.items ++ later) seat ≡ calls_left l.initial.self.calls.rows.items l.initial.self.noted (l.initial.self.archives.items ++ later) seat)
    × (l.self.config ≡ l.initial.self.config)

abbrev pub decreases-loop-self : goal.decreases-loop-self
decreases-loop-self g l = length l.self.archives.items
