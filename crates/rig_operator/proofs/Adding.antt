-- Questions that are added to those so far.
use Rattle.std.proofs.Common.{List, [], ◌++◌, Option, Some, None, sym, ap, ◌∙◌, append_assoc, append-nil}
use Rattle.rig_operator.specs.Asked.{Adds, Asked}

pub adds_nothing : (w : Option (List Asked)) → Adds w w []
adds_nothing None = tt
adds_nothing (Some xs) = sym (append-nil xs)

pub adds_both : (u v w : Option (List Asked)) (xs ys : List Asked) → Adds u v xs → Adds v w ys → Adds u w (xs ++ ys)
adds_both None v w xs ys p q = tt
adds_both (Some x) None w xs ys p q = absurd p
adds_both (Some x) (Some y) None xs ys p q = absurd q
adds_both (Some x) (Some y) (Some z) xs ys p q = q ∙ ap (λ l. l ++ ys) p ∙ append_assoc x xs ys
