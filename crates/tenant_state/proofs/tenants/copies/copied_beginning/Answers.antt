use Rattle.std.proofs.Common.{◌≡◌, [], ◌∷◌, ◌++◌, get_or, map, take, sym, ap, ◌∙◌, arith}
use Rattle.std.specs.Arc.{arc_value}
use Rattle.std.specs.Option.{option_map}
use Rattle.std.proofs.lemmas.List.{get_or-map, length-map, map-append, take_all, take_more}
use Rattle.tenant_state.proofs.tenants.copies.copied_beginning.Goals as goal

pub loop-share-preserved : goal.loop-share-preserved
loop-share-preserved c =
    let shares = c.args.shares.now in
    let i = c.loop-share.share-index in
    let copy = c.in_ok-copy.copy in
    let bodies = map (option_map arc_value) shares in
    let here : option_map arc_value copy ≡ get_or bodies i (option_map arc_value copy) =
    c.in_ok-copy.ensures ∙ ap (option_map arc_value) c.share-item.is ∙ sym (get_or-map (option_map arc_value) shares i c.share-item.result (option_map arc_value copy) c.loop-share-test.true) in
    ap (map (option_map arc_value)) c.in_ok-push.ensures.items
    ∙ map-append (option_map arc_value) c.loop-share.copies.items (copy ∷ [])
    ∙ (λ k. c.loop-share.invariant k ++ here k ∷ [])
    ∙ sym (take_more bodies i (option_map arc_value copy) (omega (arith, length-map shares (option_map arc_value), c.loop-share-test.true)))

pub returns-clause-shares : goal.returns-clause-shares
returns-clause-shares c =
    let shares = c.args.shares.now in
    c.loop-share.invariant ∙ take_all c.loop-share.share-index (map (option_map arc_value) shares) (omega (arith, length-map shares (option_map arc_value), c.loop-share-test.false))
