use Rattle.std.proofs.Common.{◌≡◌, true, nat_eq, codes, ap, ◌∙◌}
use Rattle.std.specs.List.{starts_with}
use Rattle.rig_client.proofs.Marks.{boundary_behind_mark}
use Rattle.rig_client.proofs.user_lines.path.Goals as goal

pub range_from-requires : goal.range_from-requires
range_from-requires c lt =
    let word = c.first_word-word.result.now in
    let begins : starts_with nat_eq word (codes "<") ≡ true = ap (λ w. starts_with nat_eq w (codes "<")) c.first_word-word.ensures ∙ c.requires in
    boundary_behind_mark word c.first_word-word.utf8 begins
