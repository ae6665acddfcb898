-- The events after lines, for one more line, and for the lines of a reader.
use Rattle.std.proofs.Common.{◌≡◌, ℕ, List, [], ◌∷◌, ◌++◌, Option, Some, None, refl}
use Rattle.rig_model.specs.Base.{Setting}
use Rattle.rig_model.specs.Script.{past_after, past_behind}
use Rattle.rig_model.specs.TextLines.{text_of_line}
use Rattle.rig_model.specs.declared.events.Event.{Event}
use Rattle.rig_script.specs.Given.{texts_of}
use Rattle.rig_script.specs.cited.Past.{past_behind_all}

pub past_more : (setting : Setting) (past : List Event) (texts : List (List ℕ)) (text : List ℕ) → past_behind_all setting past (texts ++ text ∷ []) ≡ past_behind setting (past_behind_all setting past texts) text
past_more setting past [] text = refl
past_more setting past (first ∷ texts) text = past_more setting (past_behind setting past first) texts text

pub past_texts : (setting : Setting) (past : List Event) (lines : List (List ℕ)) → past_behind_all setting past (texts_of lines) ≡ past_after setting past lines
past_texts setting past [] = refl
past_texts setting past (line ∷ later) = by (text_of_line line) refl (λ p. past_texts setting p later)
  where
    by : (found : Option (List ℕ)) → text_of_line line ≡ found → ((p : List Event) → past_behind_all setting p (texts_of later) ≡ past_after setting p later)
        → past_behind_all setting past (texts_of (line ∷ later)) ≡ past_after setting past (line ∷ later)
    by None e rest = rw e refl
    by (Some text) e rest = rw e (rest (past_behind setting past text))
