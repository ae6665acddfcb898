-- Whether a reply is a refusal, and what it says then.
use Rattle.std.specs.Prelude.{ℕ, ◌==◌, nat_eq, if◌then◌else◌, Bool, List, Option, Some, None, codes}
use Rattle.std.specs.List.{after_first, starts_with}

-- what a reply says, after its addressee
abbrev pub answer_in : List ℕ → List ℕ
answer_in reply = after_first (λ c. c == 32) reply

-- whether a reply is a refusal: after its addressee it begins with `err `
abbrev pub is_refusal : List ℕ → Bool
is_refusal reply = starts_with nat_eq (answer_in reply) (codes "err ")

-- what the reply to a line says, if the line was refused
abbrev pub refusal_of : Bool → List ℕ → Option (List ℕ)
refusal_of is_refused reply = if is_refused then Some (answer_in reply) else None

-- what a reply says, if it is a refusal
abbrev pub refusal_in : List ℕ → Option (List ℕ)
refusal_in reply = refusal_of (is_refusal reply) reply
