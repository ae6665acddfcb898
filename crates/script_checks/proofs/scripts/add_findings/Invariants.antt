use Rattle.std.proofs.Common.{take, string_bytes}
use Rattle.script_checks.specs.Told.{findings_in}
use Rattle.script_checks.specs.Reports.{Adds}
use Rattle.script_checks.proofs.scripts.add_findings.Given as goal

abbrev pub invariant-loop-finding : goal.invariant-loop-finding
invariant-loop-finding l = Adds l.file (findings_in l.end.number l.end.line.now l.end.before (take l.finding-index l.findings)) (string_bytes l.initial.text) (string_bytes l.text)
