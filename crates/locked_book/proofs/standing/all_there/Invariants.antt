use Rattle.std.proofs.Common.{◌≡◌, ℕ, take, Some}
use Rattle.std.specs.List.{All}
use Rattle.locked_book.specs.Books.{entry_behind}
use Rattle.rig_model.specs.declared.logged.Logged.{Logged}
use Rattle.locked_book.proofs.standing.all_there.Given as goal

abbrev pub invariant-loop-i : goal.invariant-loop-i
invariant-loop-i l = All (λ (e : ℕ × Logged). entry_behind l.before l.log e.0 ≡ Some e.1) (take l.i l.entries)
