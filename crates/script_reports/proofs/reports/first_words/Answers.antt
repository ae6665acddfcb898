use Rattle.std.proofs.Common.{◌≡◌, nat_le, length, true, false, arith}
use Rattle.std.proofs.lemmas.Bool.Decides.{nat_tests}
use Rattle.script_reports.proofs.reports.first_words.Goals as goal

pub returns-then-line-le-SHOWN : goal.returns-then-line-le-SHOWN
returns-then-line-le-SHOWN c =
    let short : nat_le (length c.args.line.now) 40 ≡ true = grind (arith, nat_tests, c.if-line-le-SHOWN.true) in
    rw short c.from_str.ensures.ok

pub returns : goal.returns
returns c =
    let long : nat_le (length c.args.line.now) 40 ≡ false = grind (arith, nat_tests, c.if-line-le-SHOWN.false) in
    rw (long, ← c.last_boundary.ensures.place, ← c.split_at.ensures.front) c.format.ensures.ok
