use Rattle.std.proofs.Common.{◌≡◌, ◌∙◌, ap, sym, subst}
use Rattle.std.specs.Str.{IsCharBoundary}
use Rattle.run_comparisons.specs.Alike.{mark_end}
use Rattle.run_comparisons.proofs.Marks.{boundary_at_mark}
use Rattle.run_comparisons.proofs.alike.cut_value.Goals as goal

pub split_at-requires : goal.split_at-requires
split_at-requires c =
    let word = c.args.word.now in
    let e : c.mark_end.result ≡ mark_end word = c.mark_end.ensures.end ∙ ap mark_end c.as_bytes.ensures.value in
    subst (IsCharBoundary word) (sym e) (boundary_at_mark word c.utf8.word)
