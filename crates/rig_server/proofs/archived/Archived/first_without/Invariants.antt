use Rattle.std.proofs.Common.{◌≡◌, ◌≢◌, ◌<◌, ℕ, [], true}
use Rattle.locked_book.specs.Books.{has_seat}
use Rattle.rig_server.specs.inner.Archived.{archived_of}
use Rattle.rig_server.proofs.archived.Archived.first_without.Given as goal

abbrev pub invariant-loop-seat : goal.invariant-loop-seat
invariant-loop-seat g l = (s : ℕ) → s < l.seat → archived_of l.self.rows.items s ≢ [] → has_seat l.passes s ≡ true
