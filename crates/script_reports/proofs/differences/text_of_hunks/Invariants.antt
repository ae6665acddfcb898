use Rattle.std.proofs.Common.{◌≡◌, ◌++◌, drop, map, string_bytes}
use Rattle.script_reports.specs.inner.Differences.{hunks_from}
use Rattle.script_reports.proofs.differences.text_of_hunks.Given as goal

abbrev pub invariant-loop-place : goal.invariant-loop-place
invariant-loop-place l =
    string_bytes l.text ++ hunks_from (map string_bytes l.replies) l.place l.came l.wanted (drop l.place l.lines) ≡ hunks_from (map string_bytes l.replies) 0 0 0 l.lines
