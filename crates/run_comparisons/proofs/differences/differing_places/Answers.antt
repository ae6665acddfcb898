use Rattle.std.proofs.Common.{Bor, ◌≡◌, ◌↔◌, ◌∙◌, ℕ, List, [], length, map, filter, sym, ap, subst, arith}
use Rattle.std.proofs.Math.ListN.{length-map}
use Rattle.std.specs.List.{range_with_len}
use Rattle.run_comparisons.specs.Answers.{RunAnswer}
use Rattle.run_comparisons.specs.Differences.{differ_at, differing_places, place_count}
use Rattle.run_comparisons.specs.inner.Replies.{replies_of}
use Rattle.run_comparisons.proofs.Listing.{fails, passes}
use Rattle.run_comparisons.proofs.Sameness.{same_if_none}
use Rattle.run_comparisons.proofs.differences.differing_places.Goals as goal
use Rattle.run_comparisons.proofs.differences.differing_places.Goals.{then-are_different+in_ok-push, else-are_different}

pub loop-place-preserved : goal.loop-place-preserved
loop-place-preserved c =
    let l = c.loop-place in
    let old = map (λ (a : Bor RunAnswer). a.now) c.args.old.now in
    let new = map (λ (a : Bor RunAnswer). a.now) c.args.new.now in
    let test : c.are_different.result ≡ differ_at c.args.tolerance old new l.place = rw (c.reply_at.ensures, c.reply_at-in-loop-place.ensures) at c.are_different.ensures in
    elim c.if-are_different.branch [
      | then-are_different+in_ok-push w ↦ rw w.places-is (passes (differ_at c.args.tolerance old new) l.place l.places.items w.push.new.self.items l.invariant (sym test ∙ w.if-are_different.true) w.in_ok-push.ensures.items)
      | else-are_different w ↦ rw w.places-is (fails (differ_at c.args.tolerance old new) l.place l.places.items l.invariant (sym test ∙ w.if-are_different.false))
    ]

pub returns-clause-same : goal.returns-clause-same
returns-clause-same c = λ exact.
    let l = c.loop-place in
    let old = map (λ (a : Bor RunAnswer). a.now) c.args.old.now in
    let new = map (λ (a : Bor RunAnswer). a.now) c.args.new.now in
    let long : length old ≡ length c.args.old.now = length-map c.args.old.now (λ (a : Bor RunAnswer). a.now) in
    let other : length new ≡ length c.args.new.now = length-map c.args.new.now (λ (a : Bor RunAnswer). a.now) in
    let count : l.place ≡ place_count old new = omega arith in
    let are : l.places.items ≡ differing_places 0 old new = l.invariant ∙ (ap (λ n. filter (differ_at c.args.tolerance old new) (range_with_len 0 n)) count ∙ ap (λ n. differing_places n old new) exact) in
    subst (λ (places : List ℕ). places ≡ [] ↔ replies_of old ≡ replies_of new) (sym are) (same_if_none old new)
