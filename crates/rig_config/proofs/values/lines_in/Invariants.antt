use Rattle.std.proofs.Common.{◌≡◌, ◌++◌, List, ℕ, drop, option_map}
use Rattle.std.specs.Prelude.{IsTrue}
use Rattle.toml.specs.View.{items_view}
use Rattle.rig_config.specs.Ranges.{are_lines}
use Rattle.rig_config.specs.Reading.{line_numbers}
use Rattle.rig_config.proofs.values.lines_in.Given as goal

abbrev pub invariant-loop-value : goal.invariant-loop-value
invariant-loop-value l =
    (option_map (λ (rest : List ℕ). l.numbers.items ++ rest) (line_numbers l.lines (items_view (drop l.value-index l.value-items))) ≡ line_numbers l.lines (items_view l.value-items))
    × IsTrue (are_lines l.lines l.numbers.items)
