use Rattle.std.proofs.Common.{◌≡◌, false, map, drop}
use Rattle.script_reports.specs.cited.Runs.{entries_from}
use Rattle.script_reports.proofs.Reading.{with_entries}
use Rattle.script_reports.proofs.runs.lines_of_parts.Given as goal

abbrev pub invariant-loop-place : goal.invariant-loop-place
invariant-loop-place l = with_entries l.lines.items (entries_from l.is_awaited l.place (drop l.place (map (λ p. p.now) l.parts))) ≡ entries_from false 0 (map (λ p. p.now) l.parts)
