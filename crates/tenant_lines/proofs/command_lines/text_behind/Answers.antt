use Rattle.std.proofs.Common.{◌<◌, length, arith}
use Rattle.std.proofs.lemmas.Bool.Decides.{nat_tests}
use Rattle.tenant_lines.proofs.cited.WordLemmas.{boundary_behind_blank}
use Rattle.tenant_lines.proofs.command_lines.text_behind.Goals as goal

pub range_from-requires : goal.range_from-requires
range_from-requires c =
    let rest = c.behind_first_word-rest.result.now in
    let some : 0 < length rest = grind (arith, nat_tests, c.if-is_empty.ensures) in
    λ within. boundary_behind_blank c.args.line.now rest c.behind_first_word-rest.utf8 c.behind_first_word-rest.ensures some
