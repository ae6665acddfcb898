use Rattle.std.proofs.Common.{ap, sym, ◌∙◌}
use Rattle.giotto_rules.specs.Declarations.{driver_ports}
use Rattle.giotto_tasks.specs.cited.Places.{place_from}
use Rattle.giotto_check.proofs.cited.SlotLemmas.{slot_shared, no_slot}
use Rattle.giotto_check.proofs.numbering.numbered.Numbered.slot.Goals as goal

pub unreachable-requires : goal.unreachable-requires
unreachable-requires c =
    let p = c.args.self.now in
    let x = c.args.name.now in
    let all = c.self.invariant.in_order ∙ ap driver_ports c.self.view_is in
    no_slot p x c.requires (slot_shared p x ∙ (ap (λ ns. place_from 0 ns x) (sym all) ∙ (sym c.place.ensures ∙ c.in-None.is)))

pub returns : goal.returns
returns c =
    let p = c.args.self.now in
    let x = c.args.name.now in
    let all = c.self.invariant.in_order ∙ ap driver_ports c.self.view_is in
    slot_shared p x ∙ (ap (λ ns. place_from 0 ns x) (sym all) ∙ (sym c.place.ensures ∙ c.in-Some.is))
