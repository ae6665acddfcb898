-- Whether the reply to a command is a refusal, and which addressees a reply has.
use Rattle.std.specs.Prelude.{◌≡◌, ℕ, Bool, true, false, List, ◌∷◌, ◌++◌}
use Rattle.rig_model.specs.declared.lines.replies.Reply.{Reply}
use Rattle.rig_model.specs.declared.lines.replies.Reply.TheVariants.{Loaded, Replaced, Started, Stopped, Mode, Port, All, Trace, Offered, Unoffered, Bound, Unbound, Rows, Refused}
use Rattle.rig_script.specs.cited.Refusals.{answer_in}

abbrev pub is_refused : Reply → Bool
is_refused Loaded = false
is_refused Replaced = false
is_refused Started = false
is_refused Stopped = false
is_refused (Mode s) = false
is_refused (Port v) = false
is_refused (All vs) = false
is_refused (Trace rs) = false
is_refused Offered = false
is_refused Unoffered = false
is_refused Bound = false
is_refused Unbound = false
is_refused (Rows rs) = false
is_refused (Refused why) = true

-- a name without a space: what follows the first space after it is all that follows
abbrev pub IsAddressee : List ℕ → Type 0
IsAddressee name = (answer : List ℕ) → answer_in (name ++ 32 ∷ answer) ≡ answer
