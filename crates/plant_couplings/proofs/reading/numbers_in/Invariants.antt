use Rattle.std.proofs.Common.{◌≡◌, ◌++◌, List, ℕ, drop, option_map}
use Rattle.toml.specs.View.{items_view}
use Rattle.plant_couplings.specs.Reading.{whole_numbers}
use Rattle.plant_couplings.proofs.reading.numbers_in.Given as goal

abbrev pub invariant-loop-value : goal.invariant-loop-value
invariant-loop-value l = option_map (λ (rest : List ℕ). l.numbers.items ++ rest) (whole_numbers (items_view (drop l.value-index l.value-items))) ≡ whole_numbers (items_view l.value-items)
