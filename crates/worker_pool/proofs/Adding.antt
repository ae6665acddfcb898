-- What is added at the end of a list, whether it is known or not.
use Rattle.std.proofs.Common.{sym, ap, ◌∙◌, ◌++◌, [], List, Option, None, Some}
use Rattle.std.proofs.lemmas.List.{append-nil, append_assoc}
use Rattle.host_core.specs.Adding.{Adds}

pub adds_nothing : {A : Type 0} (known : Option (List A)) → Adds known known []
adds_nothing None = tt
adds_nothing (Some xs) = sym (append-nil xs)

pub adds_more : {A : Type 0} (before between after : Option (List A)) (xs ys : List A) → Adds before between xs → Adds between after ys → Adds before after (xs ++ ys)
adds_more None between after xs ys first second = tt
adds_more (Some b) None after xs ys first second = absurd first
adds_more (Some b) (Some m) None xs ys first second = absurd second
adds_more (Some b) (Some m) (Some a) xs ys first second = second ∙ ap (λ zs. zs ++ ys) first ∙ append_assoc b xs ys
