use Rattle.std.proofs.Common.{◌≡◌, ◌++◌, map, drop}
use Rattle.std.specs.List.{filter_map}
use Rattle.giotto_text.specs.Program.{ActuatorDeclaration}
use Rattle.giotto_text.specs.ProgramTrees.{actuator_of}
use Rattle.giotto_rules.specs.Declarations.{lines_written}
use Rattle.giotto_rules.proofs.declarations.lines_written.Given as goal

abbrev pub invariant-loop-actuator : goal.invariant-loop-actuator
invariant-loop-actuator l = l.lines.items ++ filter_map (λ (a : ActuatorDeclaration). a.line) (map actuator_of (drop l.actuator-index l.actuator-items)) ≡ lines_written l.program
