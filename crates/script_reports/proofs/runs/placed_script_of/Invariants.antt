use Rattle.std.proofs.Common.{◌≡◌, ◌++◌, drop, string_bytes}
use Rattle.script_reports.specs.cited.Runs.{placed_from, placed_script_of}
use Rattle.script_reports.proofs.runs.placed_script_of.Given as goal

abbrev pub invariant-loop-line : goal.invariant-loop-line
invariant-loop-line l = string_bytes l.text ++ placed_from l.count (drop l.line-index l.lines) ≡ placed_script_of l.lines
