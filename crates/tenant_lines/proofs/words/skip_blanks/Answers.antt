use Rattle.std.proofs.Common.{◌≡◌, sym, ap, ◌∙◌, subst}
use Rattle.std.specs.List.{prefix_len}
use Rattle.std.specs.Str.{IsCharBoundary}
use Rattle.tenant_lines.specs.Words.{is_blank_of_line}
use Rattle.tenant_lines.proofs.cited.WordLemmas.{boundary_behind_blanks}
use Rattle.tenant_lines.proofs.words.skip_blanks.Goals as goal

pub range_from-requires : goal.range_from-requires
range_from-requires c =
    let line = c.args.line.now in
    let e : c.blank_len.result ≡ prefix_len is_blank_of_line line = c.blank_len.ensures.len ∙ ap (prefix_len is_blank_of_line) c.as_bytes.ensures.value in
    λ more. subst (IsCharBoundary line) (sym e) (boundary_behind_blanks line c.utf8.line)
