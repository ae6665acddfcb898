-- Lists that are the same in reverse.
use Rattle.std.proofs.Common.{◌≡◌, List, reverse, sym, ap, ◌∙◌}
use Rattle.std.specs.Prelude.{◌↔◌}
use Rattle.std.proofs.lemmas.List.{reverse-reverse}

pub same_reversed : {X : Type 0} (xs ys : List X) → (reverse xs ≡ reverse ys) ↔ (xs ≡ ys)
same_reversed xs ys = (λ e. sym (reverse-reverse xs) ∙ (ap reverse e ∙ reverse-reverse ys), ap reverse)
