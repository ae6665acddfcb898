use Rattle.std.proofs.Common.{◌≡◌, ◌≢◌, ℕ, sym, ap, subst, ◌∙◌, true}
use Rattle.locked_book.specs.inner.Places.{InWindow, mark_of, place_in}
use Rattle.locked_book.proofs.WindowMarks.{none_marked, marked_on, marked_before}
use Rattle.locked_book.proofs.windows.is_apart_within.Goals as goal

pub loop-i-init : goal.loop-i-init
loop-i-init c = none_marked c.args.entries.now c.args.start

pub loop-i-preserved : goal.loop-i-preserved
loop-i-preserved c =
    let start = c.args.start in
    let old = c.loop-i.marks in
    let new = c.mark.new.marks in
    let place = c.place_at-place.ensures in
    marked_on c.args.entries.now start c.loop-i.i old new c.loop-i.invariant
    (ap (mark_of old start) (sym place) ∙ sym c.mark.ensures.before ∙ c.if-mark.false)
    (subst (λ p. InWindow start p → mark_of new start p ≡ true) place c.mark.ensures.marked)
    (subst (λ p. (q : ℕ) → q ≢ p → mark_of new start q ≡ mark_of old start q) place c.mark.ensures.others)

pub returns-then-mark : goal.returns-then-mark
returns-then-mark c = (
  (λ e. absurd (cc)),
  (λ apart.
      let start = c.args.start in
      let place = c.place_at-place.ensures in
      let within : InWindow start (place_in c.args.entries.now c.loop-i.i) = subst (InWindow start) place (c.mark.ensures.within c.if-mark.true) in
      let was : mark_of c.loop-i.marks start (place_in c.args.entries.now c.loop-i.i) ≡ true = ap (mark_of c.loop-i.marks start) (sym place) ∙ sym c.mark.ensures.before ∙ c.if-mark.true in
      absurd (marked_before c.args.entries.now start c.loop-i.i c.loop-i.marks c.loop-i.invariant c.loop-i-test.true within was apart)),
)
