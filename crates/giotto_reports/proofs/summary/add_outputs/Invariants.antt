use Rattle.std.proofs.Common.{◌≡◌, ◌++◌, map, take, string_bytes}
use Rattle.std.specs.List.{flat_map}
use Rattle.giotto_breaks.specs.text.ProgramTrees.{output_of}
use Rattle.giotto_reports.specs.Summaries.{ended, line_of_output}
use Rattle.giotto_reports.proofs.summary.add_outputs.Given as goal

abbrev pub invariant-loop-output : goal.invariant-loop-output
invariant-loop-output l = string_bytes l.text ≡ string_bytes l.initial.text ++ flat_map (λ x. ended (line_of_output x)) (map output_of (take l.output-index l.outputs))
