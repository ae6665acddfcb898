use Rattle.std.proofs.Common.{◌≡◌, true, false, subst, sym, IsUtf8, arith}
use Rattle.giotto_reports.proofs.LinesOfText.{line_is_text}
use Rattle.giotto_reports.proofs.files.one_line.Goals as goal

pub unreachable-requires : goal.unreachable-requires
unreachable-requires c =
    let text = subst IsUtf8 (sym c.in_ok-bytes.ensures.line) (line_is_text _ c.as_bytes.ensures.utf8) in
    let bad : false ≡ true = c.in_default.ensures.succeeds text in grind arith
