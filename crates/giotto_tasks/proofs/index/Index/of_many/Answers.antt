use Rattle.std.proofs.Common.{rules, ◌≡◌, ◌+◌, ◌-◌, ◌<◌, length, drop, get_or, arith, subst}
use Rattle.giotto_tasks.specs.Sound.{all_different}
use Rattle.giotto_tasks.specs.cited.Places.{HasPlaces}
use Rattle.giotto_tasks.proofs.cited.IndexLemmas.{places_before, different_before}
use Rattle.giotto_tasks.proofs.index.Index.of_many.Goals as goal

pub loop-behind-preserved : goal.loop-behind-preserved
loop-behind-preserved c =
    let names = c.args.names.items in
    let place = length names - (c.loop-behind.behind + 1) in
    let name = c.copy-name.result in
    let old = c.loop-behind.places in
    let some : c.loop-behind.behind < length names = grind arith in
    let next : length names - c.loop-behind.behind ≡ place + 1 = grind arith in
    let at : c.len-in-loop-behind.result - 1 - c.loop-behind.behind ≡ place = grind arith in
    let within : place < length names = grind arith in
    let is : name ≡ get_or names place name = search rules in
    let has : HasPlaces (place + 1) (drop (place + 1) names) old = subst (λ i. HasPlaces i (drop i names) old) next c.loop-behind.invariant.0 in
    let others : c.loop-behind.different ≡ all_different (drop (place + 1) names) = subst (λ i. c.loop-behind.different ≡ all_different (drop i names)) next c.loop-behind.invariant.1 in
    let inserted = c.in_ok-insert.ensures in (
      places_before names place (c.len-in-loop-behind.result - 1 - c.loop-behind.behind) name old c.insert.new.self within is at has inserted.updates,
      different_before names place name old c.in_ok-insert.field-0 c.is_none-first.result c.loop-behind.different within is has inserted.old c.is_none-first.ensures others,
    )
