use Rattle.std.proofs.Common.{◌≡◌, ◌↔◌, ◌++◌, true, List, reverse, subst}
use Rattle.std.specs.Prelude.{option_copied}
use Rattle.rig_model.specs.declared.logged.Logged.{Logged}
use Rattle.locked_book.specs.Books.{ArchiveValue, BeginsAt, EndsIn}
use Rattle.locked_book.specs.inner.Books.{Reached}
use Rattle.locked_book.proofs.SameBases.{archived, begins_exact, begun}
use Rattle.locked_book.proofs.archives.Archive.begins_at.Goals as goal

pub returns-clause-exact : goal.returns-clause-exact
returns-clause-exact g c =
    let rig = g.N.Naming.config in
    let first = g.N.Naming.first_tick in
    let is = c.self.invariant in
    subst (λ (a : ArchiveValue). (c.begins_at.result ≡ true) ↔ BeginsAt rig first (option_copied c.args.end) a.base) c.self.view_is
    (begins_exact rig first is.past c.self.inside.base (option_copied c.args.end) c.begins_at.result is.reached c.begins_at.ensures)

pub returns-clause-next : goal.returns-clause-next
returns-clause-next g c =
    let rig = g.N.Naming.config in
    let first = g.N.Naming.first_tick in
    let is = c.self.invariant in
    let archive : ArchiveValue = record { base = c.self.inside.base; log = c.self.inside.log.items; next = c.self.inside.next } in
    subst (λ (a : ArchiveValue). c.begins_at.result ≡ true → (past : List Logged) → Reached rig first (option_copied c.args.end) past → EndsIn rig first (reverse a.log ++ past) a.next) c.self.view_is
    (λ e past here.
    archived rig first archive past is
    (begun rig first (option_copied c.args.end) archive.base past is.past is.reached
    ((begins_exact rig first is.past archive.base (option_copied c.args.end) c.begins_at.result is.reached c.begins_at.ensures).0 e) here))
