use Rattle.std.proofs.Common.{◌≡◌, ◌++◌, map, take, string_bytes}
use Rattle.std.specs.List.{flat_map}
use Rattle.giotto_breaks.specs.text.ProgramTrees.{actuator_of}
use Rattle.giotto_reports.specs.Summaries.{ended, line_of_actuator}
use Rattle.giotto_reports.proofs.summary.add_actuators.Given as goal

abbrev pub invariant-loop-actuator : goal.invariant-loop-actuator
invariant-loop-actuator l = string_bytes l.text ≡ string_bytes l.initial.text ++ flat_map (λ x. ended (line_of_actuator x)) (map actuator_of (take l.actuator-index l.actuators))
