-- Runs with other replies.
use Rattle.std.specs.Prelude.{ℕ, ◌+◌, if◌then◌else◌, List, [], ◌∷◌, ◌++◌, get_or, codes}
use Rattle.std.specs.List.{join_by}
use Rattle.script_reports.specs.cited.Runs.{is_remark, is_reply, parts_of}

-- a reply as it is written in a run; nothing if there is none
abbrev pub reply_parts : List ℕ → List (List ℕ)
reply_parts [] = []
reply_parts (c ∷ cs) = (codes "    " ++ c ∷ cs) ∷ []

-- the lines of a file with these replies to the lines of its script, the first of which has this place
abbrev pub updated_parts : List (List ℕ) → ℕ → List (List ℕ) → List (List ℕ)
updated_parts replies place [] = []
updated_parts replies place (part ∷ parts) =
    if is_reply part then updated_parts replies place parts
    else (if is_remark part then part ∷ updated_parts replies place parts
    else part ∷ (reply_parts (get_or replies place []) ++ updated_parts replies (place + 1) parts))

-- the run of a text with these replies in place of its own
abbrev pub updated_run : List ℕ → List (List ℕ) → List ℕ
updated_run text replies = join_by (λ part. part) (codes "\n") (updated_parts replies 0 (parts_of text))
