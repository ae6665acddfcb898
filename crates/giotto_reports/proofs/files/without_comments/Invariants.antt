use Rattle.std.proofs.Common.{◌≡◌, ◌++◌, drop}
use Rattle.giotto_reports.specs.Comments.{one_line}
use Rattle.giotto_reports.proofs.Commented.{from}
use Rattle.giotto_reports.proofs.files.without_comments.Given as goal

abbrev pub invariant-loop-place : goal.invariant-loop-place
invariant-loop-place l = one_line l.text ≡ l.line.items ++ from l.in_comment (drop l.place l.text)
