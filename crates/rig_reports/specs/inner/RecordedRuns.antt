-- A script with the replies to its lines, as a run.
use Rattle.std.specs.Prelude.{ℕ, ◌==◌, nat_eq, if◌then◌else◌, List, [], ◌∷◌, ◌++◌, codes}
use Rattle.std.specs.List.{ends_with}
use Rattle.rig_model.specs.Base.{Setting}
use Rattle.rig_model.specs.Script.{past_behind, reply_to_line}
use Rattle.rig_model.specs.TextLines.{cut}
use Rattle.rig_model.specs.declared.events.Event.{Event}
use Rattle.rig_model.specs.lines.Words.{behind_first_word, first_word_of}
use Rattle.rig_script.specs.Given.{texts_of}

-- what comes before a line whose first word is this: a blank before a `#`, with which a run's remarks begin
abbrev pub before_word : List ℕ → List ℕ
before_word [] = []
before_word (c ∷ cs) = if c == 35 then codes " " else []

-- the end of a line: LF, after a CR if the line has one at its end, since the last CR before LF isn't read
abbrev pub end_of_line : List ℕ → List ℕ
end_of_line line = if ends_with nat_eq line (13 ∷ []) then 13 ∷ 10 ∷ [] else 10 ∷ []

-- what comes before a reply: four blanks, or nothing if there is none
abbrev pub before_reply : List ℕ → List ℕ
before_reply [] = []
before_reply (c ∷ cs) = codes "    "

-- a line from its first word on, with its end, and the reply to it, which has LF, below
abbrev pub recorded_line : List ℕ → List ℕ → List ℕ
recorded_line line reply =
    before_word (first_word_of line) ++ (first_word_of line ++ (behind_first_word line ++ (end_of_line line ++ (before_reply reply ++ reply))))

module _ (setting : Setting) where
  -- lines of these texts with the replies that the rig gives, if `past` are the events before
  abbrev pub recorded_from : List Event → List (List ℕ) → List ℕ
  recorded_from past [] = []
  recorded_from past (text ∷ texts) = recorded_line text (reply_to_line setting past text) ++ recorded_from (past_behind setting past text) texts

  -- the run of a script
  abbrev pub recorded_run_of : List ℕ → List ℕ
  recorded_run_of bytes = recorded_from [] (texts_of (cut bytes))
