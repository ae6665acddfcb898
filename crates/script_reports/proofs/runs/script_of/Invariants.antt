use Rattle.std.proofs.Common.{◌≡◌, string_bytes, take}
use Rattle.script_reports.specs.cited.Runs.{script_of}
use Rattle.script_reports.proofs.runs.script_of.Given as goal

abbrev pub invariant-loop-line : goal.invariant-loop-line
invariant-loop-line l = string_bytes l.text ≡ script_of (take l.line-index l.lines)
