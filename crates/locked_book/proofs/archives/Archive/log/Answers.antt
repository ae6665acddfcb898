use Rattle.std.proofs.Common.{List, reverse, ◌++◌, subst}
use Rattle.rig_model.specs.declared.logged.Logged.{Logged}
use Rattle.locked_book.specs.Books.{ArchiveValue, EndsIn, IsLegalFrom}
use Rattle.locked_book.proofs.SameBases.{archived, legal_archive}
use Rattle.locked_book.proofs.archives.Archive.log.Goals as goal

pub returns-clause-legal : goal.returns-clause-legal
returns-clause-legal g c =
    let rig = g.N.Naming.config in
    let first = g.N.Naming.first_tick in
    let archive : ArchiveValue = record { base = c.self.inside.base; log = c.self.inside.log.items; next = c.self.inside.next } in
    subst (λ (a : ArchiveValue). IsLegalFrom rig first a.base a.log a.next.host) c.self.view_is (legal_archive rig first archive c.self.invariant)

pub returns-clause-next : goal.returns-clause-next
returns-clause-next g c =
    let rig = g.N.Naming.config in
    let first = g.N.Naming.first_tick in
    let archive : ArchiveValue = record { base = c.self.inside.base; log = c.self.inside.log.items; next = c.self.inside.next } in
    subst (λ (a : ArchiveValue). (past : List Logged) → EndsIn rig first past a.base → EndsIn rig first (reverse a.log ++ past) a.next) c.self.view_is
    (λ past ends. archived rig first archive past c.self.invariant ends)
