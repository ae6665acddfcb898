use Rattle.std.proofs.Common.{map, Some, None, ap, sym, ◌∙◌}
use Rattle.std.proofs.lemmas.List.{length-map}
use Rattle.giotto_rules.specs.text.PortNames.{own_port}
use Rattle.giotto_check.specs.Slots.{port_names}
use Rattle.giotto_rules.specs.Ports.{ports_of, shown_name}
use Rattle.giotto_check.proofs.cited.SlotLemmas.{name_at_slot, names_at_slots, names_in_row, shared_shown}
use Rattle.giotto_check.proofs.cited.Valuations.{with_value_at_place, with_values_at_places, with_values_in_range}
use Rattle.giotto_check.proofs.laws.changed_by_slot.Goals as goal

pub returns-clause-value : goal.returns-clause-value
returns-clause-value c = λ p values port k z all at.
    with_value_at_place (port_names p) values k (shown_name port) z all.ports_once (name_at_slot p port.task port.name k at) (length-map (ports_of p) shown_name ∙ sym all.long)

pub returns-clause-several : goal.returns-clause-several
returns-clause-several c = λ p values names slots zs all at.
    with_values_at_places (port_names p) values names slots zs all.ports_once (names_at_slots p None names slots at ∙ ap (map Some) (shared_shown names)) (length-map (ports_of p) shown_name ∙ sym all.long)

pub returns-clause-range : goal.returns-clause-range
returns-clause-range c = λ p values t names first zs all given.
    with_values_in_range (port_names p) values (map (own_port t) names) first zs all.ports_once (names_in_row p t names first given.slots) (length-map (ports_of p) shown_name ∙ sym all.long) (given.long ∙ sym (length-map names (own_port t)))
