use Rattle.std.proofs.Common.{◌≡◌, ◌<◌, ⊎_elim, true, false, length, take, refl, sym, ap, ◌∙◌, subst, arith}
use Rattle.std.proofs.lemmas.Bool.{cases_lt}
use Rattle.std.proofs.lemmas.List.{get_or_default, length-set}
use Rattle.locked_book.specs.Books.{BookValue, PassValue, Knows, Matches, has_seat, pass_at}
use Rattle.locked_book.proofs.Comparisons.{no_pass, marked_on}
use Rattle.locked_book.proofs.comparison.first_mismatch.Goals as goal

pub returns-then-not-is_known-clause-first : goal.returns-then-not-is_known-clause-first
returns-then-not-is_known-clause-first g c = λ host m.
    let book : BookValue = record { base = c.args.base.now; host = host; log = c.args.log.now; seats = length c.args.seats.now } in
    let read : c.index-passes-i.result ≡ pass_at c.args.passes.now c.loop-i.i = c.index-passes-i.is ∙ get_or_default c.args.passes.now c.loop-i.i c.index-passes-i.result no_pass c.loop-i-test.true in
    absurd (let e = (c.if-not-is_known.ensures host).1 (subst (Knows book) (sym read) m.known) in cc)

pub bounds-marks-seat : goal.bounds-marks-seat
bounds-marks-seat g c =
    let given = ((c.if-not-is_known.ensures c.args.base.now.host).0 refl).given in
    let as_many = c.loop-i.invariant.0 in
    omega (arith, given, c.seat-seat.ensures, as_many)

pub bounds-marks-seat-in-loop-i : goal.bounds-marks-seat-in-loop-i
bounds-marks-seat-in-loop-i g c =
    let given = ((c.if-not-is_known.ensures c.args.base.now.host).0 refl).given in
    let as_many = c.loop-i.invariant.0 in
    omega (arith, given, c.seat-seat.ensures, as_many)

pub loop-i-preserved : goal.loop-i-preserved
loop-i-preserved g c =
    let i = c.loop-i.i in
    let marks = c.loop-i.marks in
    let passes = c.args.passes.now in
    let seat = c.seat-seat.result in
    let read : c.index-passes-i.result ≡ pass_at passes i = c.index-passes-i.is ∙ get_or_default passes i c.index-passes-i.result no_pass c.loop-i-test.true in
    let its_seat : seat ≡ (pass_at passes i).seat = c.seat-seat.ensures ∙ ap (λ (p : PassValue). p.seat) read in
    let given = ((c.if-not-is_known.ensures c.args.base.now.host).0 refl).given in
    let as_many = c.loop-i.invariant.0 in
    let once : has_seat (take i passes) (pass_at passes i).seat ≡ false = ap (has_seat (take i passes)) (sym its_seat) ∙ (sym (c.loop-i.invariant.1 seat) ∙ c.if-marks-seat.false) in (
      length-set marks seat true ∙ as_many,
      marked_on marks passes i seat c.loop-i.invariant.1 c.loop-i-test.true its_seat (omega (arith, given, c.seat-seat.ensures, as_many)),
      (λ host k lt.
          let book : BookValue = record { base = c.args.base.now; host = host; log = c.args.log.now; seats = length c.args.seats.now } in
          ⊎_elim
          (λ (less : k < i). c.loop-i.invariant.2 host k less)
          (λ le.
          let same : k ≡ i = omega (arith, lt, le) in
          subst (Matches book passes) (sym same) (record { known = subst (Knows book) read ((c.if-not-is_known.ensures host).0 refl); once = once }))
          (cases_lt k i)),
    )
