-- The run of a script, with one more line.
use Rattle.std.proofs.Common.{◌≡◌, ℕ, List, [], ◌∷◌, ◌++◌, Result, Ok, Err, OnOk, sym, ap, ◌∙◌, append_assoc, append-nil}
use Rattle.rig_script.specs.host.HostStanding.{HostStanding}
use Rattle.rig_model.specs.Base.{Setting}
use Rattle.rig_model.specs.Script.{past_behind, reply_to_line}
use Rattle.rig_model.specs.declared.events.Event.{Event}
use Rattle.rig_reports.specs.inner.RecordedRuns.{recorded_from, recorded_line}
use Rattle.rig_script.specs.cited.Heard.{HearsLine}
use Rattle.rig_script.specs.cited.Past.{past_behind_all}
use Rattle.rig_script.specs.declared.listeners.Answered.{Answered}

recorded_more : (setting : Setting) (past : List Event) (texts : List (List ℕ)) (text : List ℕ)
    → recorded_from setting past (texts ++ text ∷ []) ≡ recorded_from setting past texts ++ recorded_line text (reply_to_line setting (past_behind_all setting past texts) text)
recorded_more setting past [] text = append-nil (recorded_line text (reply_to_line setting past text))
recorded_more setting past (first ∷ texts) text =
    let later = past_behind setting past first in
    let one = recorded_line first (reply_to_line setting past first) in
    ap (λ ls. one ++ ls) (recorded_more setting later texts text)
    ∙ sym (append_assoc one (recorded_from setting later texts) (recorded_line text (reply_to_line setting (past_behind_all setting later texts) text)))

-- a listener has heard one more line
pub hears_entry : {T E : Type 0} (r : Result T E) (before after : List ℕ) (host : HostStanding) (line : Answered) → OnOk r (after ≡ before ++ recorded_line line.text.now line.reply.now)
    → OnOk r (HearsLine (λ setting texts. before ≡ recorded_from setting [] texts) (λ setting texts. after ≡ recorded_from setting [] texts) host line)
hears_entry (Err e) before after host line grown = tt
hears_entry (Ok x) before after host line grown = λ setting texts so is stands.
    grown
    ∙ (ap (λ t. t ++ recorded_line line.text.now line.reply.now) so
    ∙ (ap (λ r. recorded_from setting [] texts ++ recorded_line line.text.now r) is.reply ∙ sym (recorded_more setting [] texts line.text.now)))
