use Rattle.std.proofs.Common.{◌≡◌, ◌++◌, map, take, string_bytes}
use Rattle.std.specs.List.{flat_map}
use Rattle.giotto_breaks.specs.text.ProgramTrees.{mode_of}
use Rattle.giotto_reports.specs.Summaries.{ended, line_of_mode}
use Rattle.giotto_reports.proofs.summary.add_modes.Given as goal

abbrev pub invariant-loop-mode : goal.invariant-loop-mode
invariant-loop-mode l = string_bytes l.text ≡ string_bytes l.initial.text ++ flat_map (λ x. ended (line_of_mode x)) (map mode_of (take l.mode-index l.modes))
