use Rattle.std.proofs.Common.{◌≡◌, ◌+◌, ◌≤◌, ℕ, List, [], ◌++◌, length, map, take, drop, sym, ap, ◌∙◌, subst, arith}
use Rattle.std.proofs.lemmas.List.{length-map}
use Rattle.giotto_tasks.proofs.cited.ListLemmas.{whole_slice}
use Rattle.rig_model.specs.declared.logged.Logged.{Logged}
use Rattle.host_core.specs.HostStanding.{outstanding_count}
use Rattle.locked_book.specs.Books.{BaseValue, BookValue, IsNextBase, SeatValue, length_of}
use Rattle.locked_book.specs.Logs.{LogValue}
use Rattle.locked_book.specs.inner.Books.{IsArchive, IsBook, without_places}
use Rattle.locked_book.proofs.Steps.{base_of, book_archive, book_archived, next_base}
use Rattle.locked_book.proofs.books.Book.archive.Goals as goal

pub invariant_of-result : goal.invariant_of-result
invariant_of-result g c =
    let rig = g.N.Naming.config in
    let first = g.N.Naming.first_tick in
    let seats = c.self.inside.seats.items in
    let book : BookValue = record { base = c.self.inside.base; host = c.self.inside.host; log = c.self.inside.log.items; seats = length seats } in
    let long : c.length-length.result ≡ length_of book = c.length-length.ensures.length ∙ ap length_of (sym c.self.view_is) in
    let next : c.in_ok-next.next ≡ base_of book seats =
    c.in_ok-next.ensures ∙ (λ k. record { host = book.host; entries_before = long k; calls = map (λ (s : SeatValue). s.calls) (c.deref-2.ensures.value k) }) in
    let log : c.replace-2.result.items ≡ book.log = ap (λ (l : LogValue). l.items) c.replace-2.ensures.value in
    subst (λ (base : BaseValue). IsArchive rig first (record { base = base; log = c.replace-2.result.items; next = c.in_ok-next.next })) (sym c.replace.ensures.value)
    (subst (λ (l : List Logged). IsArchive rig first (record { base = book.base; log = l; next = c.in_ok-next.next })) (sym log)
    (subst (λ (base : BaseValue). IsArchive rig first (record { base = book.base; log = book.log; next = base })) (sym next)
    (book_archive rig first book seats c.self.invariant.2)))

pub invariant_of-self : goal.invariant_of-self
invariant_of-self g c =
    let rig = g.N.Naming.config in
    let first = g.N.Naming.first_tick in
    let seats = c.self.inside.seats.items in
    let book : BookValue = record { base = c.self.inside.base; host = c.self.inside.host; log = c.self.inside.log.items; seats = length seats } in
    let long : c.length-length.result ≡ length_of book = c.length-length.ensures.length ∙ ap length_of (sym c.self.view_is) in
    let base : c.replace.new.dest ≡ base_of book seats =
    c.replace.ensures.after ∙ (c.in_ok-base.ensures ∙ (λ k. record { host = book.host; entries_before = long k; calls = map (λ (s : SeatValue). s.calls) (c.deref.ensures.value k) })) in
    let log : c.replace-2.new.dest.items ≡ [] = ap (λ (l : LogValue). l.items) c.replace-2.ensures.after ∙ (c.reserve.ensures.items ∙ c.new-log.ensures) in
    let none = ap length log in
    let capacity = ap (λ (l : LogValue). l.capacity) c.replace-2.ensures.after in
    let room = c.in_ok-reserve.ensures.room in
    let empty = ap length c.new-log.ensures in
    let count = c.outstanding.ensures in
    let forgotten : c.forget_places.new.seats ≡ map without_places seats = c.forget_places.ensures ∙ ap (map without_places) c.as_mut_slice.ensures.value in
    let many : length c.forget_places.new.seats ≡ length seats = ap length forgotten ∙ length-map seats without_places in
    let written = whole_slice c.self.inside.seats.len c.forget_places.new.seats seats (let l = c.as_mut_slice.ensures.len in let v = ap length c.as_mut_slice.ensures.value in omega (arith, many, l, v)) in
    let all : take c.self.inside.seats.len (c.forget_places.new.seats ++ drop (length c.forget_places.new.seats) seats) ≡ map without_places seats = written ∙ forgotten in
    let as_many : length (take c.self.inside.seats.len (c.forget_places.new.seats ++ drop (length c.forget_places.new.seats) seats)) ≡ length seats = ap length written ∙ many in (
      omega (arith, none, capacity, room, empty, count),
      c.self.invariant.1 ∙ sym as_many,
      rw (base, log, as_many, all) (book_archived rig first book seats c.self.invariant.2),
    )

pub returns-clause-next : goal.returns-clause-next
returns-clause-next g c =
    let rig = g.N.Naming.config in
    let first = g.N.Naming.first_tick in
    let seats = c.self.inside.seats.items in
    let book : BookValue = record { base = c.self.inside.base; host = c.self.inside.host; log = c.self.inside.log.items; seats = length seats } in
    let long : c.length-length.result ≡ length_of book = c.length-length.ensures.length ∙ ap length_of (sym c.self.view_is) in
    let base : c.replace.new.dest ≡ base_of book seats =
    c.replace.ensures.after ∙ (c.in_ok-base.ensures ∙ (λ k. record { host = book.host; entries_before = long k; calls = map (λ (s : SeatValue). s.calls) (c.deref.ensures.value k) })) in
    subst (λ (b : BookValue). IsNextBase b c.replace.new.dest) c.self.view_is (subst (IsNextBase book) (sym base) (next_base rig first book seats c.self.invariant.2))
