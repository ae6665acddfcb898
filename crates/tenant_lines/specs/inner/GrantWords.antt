-- What follows the name in a command about grants.
use Rattle.std.specs.Prelude.{ℕ, ◌&&◌, if◌then◌else◌, List, [], ◌∷◌, Option, None, codes}
use Rattle.giotto_tasks.specs.Names.{same_name}
use Rattle.tenant_lines.specs.declared.grant_lines.GrantCommand.{GrantCommand}
use Rattle.tenant_lines.specs.GrantLines.{bounded_offer_command, offer_command}

-- the second of two words, if the first is this one; otherwise empty
abbrev pub word_behind : List ℕ → List (List ℕ) → List ℕ
word_behind k (w ∷ y ∷ []) = if same_name w k then y else []
word_behind k _ = []

-- after "offer NAME to TENANT from": "LO to HI"
abbrev pub offer_within : List ℕ → List ℕ → List (List ℕ) → Option GrantCommand
offer_within a t [] = None
offer_within a t (low ∷ ws) = bounded_offer_command a t low (word_behind (codes "to") ws)

-- after "offer NAME": "to TENANT", or "to TENANT from LO to HI" if there are more words
abbrev pub offer_by : List ℕ → List (List ℕ) → Option GrantCommand
offer_by a (w ∷ t ∷ k ∷ ws) = if same_name w (codes "to") && same_name k (codes "from") then offer_within a t ws else None
offer_by a ws = offer_command a (word_behind (codes "to") ws) None
