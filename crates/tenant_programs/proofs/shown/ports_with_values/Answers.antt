use Rattle.std.proofs.Common.{◌≡◌, ◌+◌, ◌++◌, ◌∷◌, [], length, map, drop, rules, sym, ap, ◌∙◌, pos, w64, FitsSigned as SFits}
use Rattle.std.specs.List.{zip}
use Rattle.std.proofs.lemmas.Int.{to_z-of_z}
use Rattle.std.proofs.lemmas.List.{length-append}
use Rattle.std.proofs.lemmas.Slice.Zip.{zip_end, zip_turn}
use Rattle.tenant_programs.specs.inner.ShownPorts.{with_its_value}
use Rattle.tenant_programs.proofs.ShownPorts.{pairs_more, pairs_end}
use Rattle.tenant_programs.proofs.shown.ports_with_values.Goals as goal

pub loop-name-preserved : goal.loop-name-preserved
loop-name-preserved c =
    let names = c.args.names.now in
    let values = c.args.values.now in
    let all = c.loop-name.all.items in
    let i = length c.loop-name.yielded in
    let turn = zip_turn names values c.loop-name.yielded c.into_iter-name-iterator.result c.loop-name.name-iterator c.next.new.self c.next.result (search rules) (search rules) c.loop-name.yielded_by
    (c.in-Some.name, c.in-Some.value) c.in-Some.is c.next.ensures.steps in
    let fits : SFits w64 c.in-Some.value.now = rw (turn.3 (pos 0)) (search rules) in
    let next : length (c.loop-name.yielded ++ (c.in-Some.name, c.in-Some.value) ∷ []) ≡ i + 1 = length-append c.loop-name.yielded ((c.in-Some.name, c.in-Some.value) ∷ []) in
    let pushed : c.push.new.self.items ≡ all ++ with_its_value (c.in-Some.name.now, c.in-Some.value.now) ∷ [] =
    rw (to_z-of_z w64 c.in-Some.value.now fits) at c.in_ok-push.ensures.items ∙ ap (λ n. all ++ with_its_value (n, c.in-Some.value.now) ∷ []) c.copy.ensures in
    (λ k. pushed k ++ map with_its_value (zip (drop (next k) names) (drop (next k) values)))
    ∙ pairs_more names values all i c.in-Some.name.now c.in-Some.value.now turn.0 turn.1 turn.2 turn.3
    ∙ c.loop-name.invariant

pub returns : goal.returns
returns c =
    let names = c.args.names.now in
    let values = c.args.values.now in
    let end = zip_end names values c.loop-name.yielded c.into_iter-name-iterator.result c.loop-name.name-iterator c.next.new.self c.next.result (search rules) (search rules) c.loop-name.yielded_by c.in-None.is c.next.ensures.steps in
    sym (pairs_end names values c.loop-name.all.items (length c.loop-name.yielded) end) ∙ c.loop-name.invariant
