-- What is written for the lines of a script. The replies are a parameter.
use Rattle.std.specs.Prelude.{ℕ, List, [], ◌∷◌, ◌++◌, Option, Some, None, IsSome, codes}
use Rattle.std.specs.Option.{option_map}
use Rattle.rig_model.specs.TextLines.{text_of_line}

-- a reply line: the addressee, a space, the reply, and LF
abbrev pub reply_line : List ℕ → List ℕ → List ℕ
reply_line who reply = who ++ (32 ∷ reply ++ 10 ∷ [])

-- what is written for a line that is too long or not UTF-8; that line ends the script
abbrev pub bye_bad_line : List ℕ
bye_bad_line = reply_line (codes "host") (codes "bye bad-line")

-- what is written to this addressee when there is no memory for a reply
abbrev pub err_memory : List ℕ → List ℕ
err_memory who = reply_line who (codes "err memory")

-- a line of at most 16,384 bytes in UTF-8
abbrev pub IsText : List ℕ → Type 0
IsText line = IsSome (text_of_line line)

-- `reply` is the reply in a state to a line's text, and `after` the state after it
module _ {S : Type 0} (reply : S → List ℕ → List ℕ) (after : S → List ℕ → S) where
  abbrev pub answered : S → List (List ℕ) → List ℕ
  answered s [] = []
  answered s (line ∷ later) = or_bye (option_map (λ text. reply s text ++ answered (after s text) later) (text_of_line line))
    where
      or_bye : Option (List ℕ) → List ℕ
      or_bye None = bye_bad_line
      or_bye (Some replies) = replies

  abbrev pub state_after : S → List (List ℕ) → S
  state_after s [] = s
  state_after s (line ∷ later) = or_same (option_map (λ text. state_after (after s text) later) (text_of_line line))
    where
      or_same : Option S → S
      or_same None = s
      or_same (Some t) = t
