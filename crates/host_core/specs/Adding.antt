-- Lists that grow at their end. A list may be known or not.
use Rattle.std.specs.Prelude.{◌≡◌, ⊤, List, ◌++◌, Option, Some, None}

-- if the list before is known, so is the list after: it is the list before with these added at its end
abbrev pub Adds : {A : Type 0} → Option (List A) → Option (List A) → List A → Type 0
Adds None new more = ⊤
Adds (Some before) None more = ⊥
Adds (Some before) (Some after) more = after ≡ before ++ more
