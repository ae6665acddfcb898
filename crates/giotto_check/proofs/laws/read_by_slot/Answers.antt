use Rattle.std.proofs.Common.{map, sym, ◌∙◌}
use Rattle.std.proofs.lemmas.List.{length-map}
use Rattle.giotto_rules.specs.text.PortNames.{own_port}
use Rattle.giotto_check.specs.Slots.{port_names}
use Rattle.giotto_rules.specs.Ports.{ports_of, shown_name}
use Rattle.giotto_check.proofs.cited.SlotLemmas.{name_at_slot, names_in_row}
use Rattle.giotto_check.proofs.cited.Valuations.{value_at_place, values_in_range}
use Rattle.giotto_check.proofs.laws.read_by_slot.Goals as goal

pub returns-clause-value : goal.returns-clause-value
returns-clause-value c = λ p values port k different at. value_at_place (port_names p) values k (shown_name port) different (name_at_slot p port.task port.name k at)

pub returns-clause-range : goal.returns-clause-range
returns-clause-range c = λ p values t names first all slots.
    let count = length-map names (own_port t) in
    rw (← count) (values_in_range (port_names p) values (map (own_port t) names) first all.ports_once (names_in_row p t names first slots) (length-map (ports_of p) shown_name ∙ sym all.long))
