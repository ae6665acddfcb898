use Rattle.std.proofs.Common.{◌≡◌, sym, ap, ◌∙◌, subst}
use Rattle.std.specs.List.{prefix_len}
use Rattle.std.specs.Str.{IsCharBoundary}
use Rattle.tenant_lines.specs.Words.{is_word_byte}
use Rattle.tenant_lines.proofs.cited.WordLemmas.{boundary_at_blank}
use Rattle.tenant_lines.proofs.words.cut.Goals as goal

pub split_at-requires : goal.split_at-requires
split_at-requires c =
    let rest = c.skip_blanks-rest.result.now in
    let e : c.word_len.result ≡ prefix_len is_word_byte rest = c.word_len.ensures.len ∙ ap (prefix_len is_word_byte) c.as_bytes.ensures.value in
    subst (IsCharBoundary rest) (sym e) (boundary_at_blank rest)
