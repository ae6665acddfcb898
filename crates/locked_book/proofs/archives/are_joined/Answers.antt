use Rattle.std.proofs.Common.{◌≡◌, ◌↔◌, ◌+◌, List, None, Some, drop, reverse, take, refl, sym, ap, subst, arith}
use Rattle.std.specs.Prelude.{option_copied}
use Rattle.locked_book.specs.Books.{ArchiveValue, BaseValue, EndsIn, Follow}
use Rattle.locked_book.proofs.Joined.{joined_more, logged_more, logs_of, none_left}
use Rattle.locked_book.proofs.archives.are_joined.Goals as goal

pub loop-archive-init : goal.loop-archive-init
loop-archive-init g c = ((λ all. all, λ all. all), refl)

pub loop-archive-preserved : goal.loop-archive-preserved
loop-archive-preserved g c =
    let rig = g.N.Naming.config in
    let first = g.N.Naming.first_tick in
    let l = c.loop-archive in
    let a = c.archive-item.result in
    let all = c.args.archives.now in
    let i = l.archive-index in
    let last = c.args.book.now.base in
    let begins = c.begins_at.ensures.exact.0 c.if-not-begins_at.false in
    let at_next : a.next ≡ c.archive.inside.next = sym (ap (λ (x : ArchiveValue). x.next) c.archive.view_is) in
    let ends = subst (λ past. EndsIn rig first past a.next) (logged_more all i a c.loop-archive-test.true c.archive-item.is)
    (c.begins_at.ensures.next c.if-not-begins_at.false (reverse (logs_of (take i all))) l.invariant.1) in (
      subst (λ (next : BaseValue). Follow rig first (Some next) (drop (i + 1) all) last ↔ Follow rig first None all last) at_next
          (joined_more all i a c.loop-archive-test.true c.archive-item.is rig first (option_copied l.end) last begins l.invariant.0),
      subst (λ (next : BaseValue). EndsIn rig first (reverse (logs_of (take (i + 1) all))) next) at_next ends,
    )

pub returns-clause-reached : goal.returns-clause-reached
returns-clause-reached g c = λ e.
    let rig = g.N.Naming.config in
    let first = g.N.Naming.first_tick in
    let i = c.loop-archive.archive-index in
    let all = c.args.archives.now in
    let ended = c.loop-archive-test.false in
    let whole = (none_left all i (omega (arith, ended))).1 in
    subst (λ (archives : List ArchiveValue). EndsIn rig first (reverse (logs_of archives)) c.args.book.now.base) whole
    (c.begins_at-2.ensures.reached e (reverse (logs_of (take i all))) c.loop-archive.invariant.1)
