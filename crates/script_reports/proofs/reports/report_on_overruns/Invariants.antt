use Rattle.std.proofs.Common.{◌≡◌, string_bytes, take}
use Rattle.std.specs.List.{flat_map}
use Rattle.script_reports.specs.cited.Reports.{report_on_overrun}
use Rattle.script_reports.proofs.reports.report_on_overruns.Given as goal

abbrev pub invariant-loop-overrun : goal.invariant-loop-overrun
invariant-loop-overrun l = string_bytes l.text ≡ flat_map (report_on_overrun l.number l.line) (take l.overrun-index l.overruns)
