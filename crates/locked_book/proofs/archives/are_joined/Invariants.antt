use Rattle.std.proofs.Common.{◌↔◌, None, drop, reverse, take}
use Rattle.std.specs.List.{flat_map}
use Rattle.std.specs.Prelude.{option_copied}
use Rattle.locked_book.specs.Books.{ArchiveValue, Follow}
use Rattle.locked_book.specs.inner.Books.{Reached}
use Rattle.locked_book.proofs.archives.are_joined.Given as goal

-- all join if those that are left do, and what was logged up to here ends there
abbrev pub invariant-loop-archive : goal.invariant-loop-archive
invariant-loop-archive g l =
    (Follow g.N.Naming.config g.N.Naming.first_tick (option_copied l.end) (drop l.archive-index l.archives) l.book.base
    ↔ Follow g.N.Naming.config g.N.Naming.first_tick None l.archives l.book.base)
    × Reached g.N.Naming.config g.N.Naming.first_tick (option_copied l.end) (reverse (flat_map (λ (a : ArchiveValue). a.log) (take l.archive-index l.archives)))
