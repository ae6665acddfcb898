use Rattle.std.proofs.Common.{◌≡◌, ◌≤◌, ◌+◌, drop, map, string_bytes}
use Rattle.script_reports.specs.inner.Differences.{failures_from}
use Rattle.script_reports.proofs.suites.failures.Given as goal

abbrev pub invariant-loop-place : goal.invariant-loop-place
invariant-loop-place l = record {
  few : l.failures ≤ l.place;
  so_far : l.failures + failures_from (map string_bytes l.replies) l.place (drop l.place l.lines) ≡ failures_from (map string_bytes l.replies) 0 l.lines;
}
