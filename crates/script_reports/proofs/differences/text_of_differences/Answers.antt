use Rattle.std.proofs.Common.{string_bytes, map, ◌∙◌, arith}
use Rattle.std.proofs.lemmas.Bool.Decides.{nat_tests}
use Rattle.script_reports.proofs.Comparing.{with_name}
use Rattle.script_reports.proofs.differences.text_of_differences.Goals as goal

pub returns : goal.returns
returns c =
    with_name c.format.result c.args.name.now c.args.lines.now (map string_bytes c.args.replies.now) c.as_str-hunks.result.now (c.as_str-hunks.ensures.value ∙ c.in_ok-hunks.ensures) (let some = c.if-hunks-eq0.false in grind (arith, nat_tests, some)) c.format.ensures.ok
