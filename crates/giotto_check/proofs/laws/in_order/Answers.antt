use Rattle.std.proofs.Common.{sym, ◌∙◌}
use Rattle.std.proofs.lemmas.List.{length-map}
use Rattle.std.proofs.lemmas.Slice.Zip.{firsts-zip}
use Rattle.giotto_check.specs.Slots.{port_names}
use Rattle.giotto_rules.specs.Ports.{ports_of, shown_name}
use Rattle.giotto_check.proofs.cited.SlotLemmas.{slot_of_port}
use Rattle.giotto_check.proofs.laws.in_order.Goals as goal

pub returns-clause-slots : goal.returns-clause-slots
returns-clause-slots c = λ p k port different at. slot_of_port p k port different at

pub returns-clause-names : goal.returns-clause-names
returns-clause-names c = λ p values long. firsts-zip (port_names p) values (long ∙ sym (length-map (ports_of p) shown_name))
