use Rattle.std.proofs.Common.{take, string_bytes}
use Rattle.giotto_reports.specs.Reports.{AreShown}
use Rattle.giotto_reports.proofs.shown.Given as goal

abbrev pub invariant-loop-finding : goal.invariant-loop-finding
invariant-loop-finding l = AreShown l.file l.source (take l.finding-index l.findings) (string_bytes l.text)
