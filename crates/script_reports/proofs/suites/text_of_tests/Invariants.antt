use Rattle.std.proofs.Common.{map, take, string_bytes}
use Rattle.script_reports.specs.inner.Suites.{AreTests}
use Rattle.script_reports.proofs.suites.text_of_tests.Given as goal

abbrev pub invariant-loop-place : goal.invariant-loop-place
invariant-loop-place l = AreTests l.suite (map string_bytes l.replies) 0 (take l.place l.lines) (string_bytes l.text)
