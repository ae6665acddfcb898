-- The recording after one more line.
use Rattle.std.proofs.Common.{◌≡◌, ◌+◌, ℕ, suc, List, [], ◌∷◌, ◌++◌, length, map, reverse, Option, Some, None, Result, Ok, Err, OnOk, sym, ap, ◌∙◌, append_assoc, append-nil, arith}
use Rattle.std.proofs.lemmas.List.{length-reverse, reverse-append}
use Rattle.tenant_sources.specs.host.HostStanding.{HostStanding, Stands}
use Rattle.rig_model.specs.config.Roster.{Rig}
use Rattle.rig_model.specs.Base.{Setting, new_base}
use Rattle.rig_model.specs.Script.{line_step, past_after, past_behind, reply_to_line, speaker_of}
use Rattle.rig_model.specs.TextLines.{cut}
use Rattle.rig_model.specs.declared.events.Event.{Event}
use Rattle.rig_model.specs.declared.speakers.Speaker.{Speaker}
use Rattle.rig_retests.specs.declared.recordings.RecordedLine.{RecordedLine}
use Rattle.rig_retests.specs.inner.Recording.{IsRecorded, Recorded, recorded_as, recorded_from, recorded_line, recorded_of, unless_blank}
use Rattle.rig_script.proofs.cited.Behind.{past_more, past_texts}
use Rattle.rig_script.proofs.cited.NewScript.{starts}
use Rattle.rig_script.specs.BrokenOff.{ForNewHostReading}
use Rattle.rig_script.specs.Given.{number_behind, texts_of}
use Rattle.rig_script.specs.cited.Heard.{ForHostReading, HearsLine, IsAnsweredAfter}
use Rattle.rig_script.specs.cited.Past.{past_behind_all, past_of}
use Rattle.rig_script.specs.declared.listeners.Answered.{Answered}

recorded_more : (setting : Setting) (past : List Event) (n : ℕ) (texts : List (List ℕ)) (text : List ℕ)
    → recorded_from setting past n (texts ++ text ∷ []) ≡ recorded_from setting past n texts ++ unless_blank (recorded_line setting (past_behind_all setting past texts) (n + length texts) text)
recorded_more setting past n [] text =
    let same : n ≡ n + 0 = omega arith in
    append-nil (unless_blank (recorded_line setting past n text)) ∙ ap (λ k. unless_blank (recorded_line setting past k text)) same
recorded_more setting past n (first ∷ texts) text =
    let later = past_behind setting past first in
    let here = unless_blank (recorded_line setting past n first) in
    let same : n + 1 + length texts ≡ n + suc (length texts) = omega arith in
    ap (λ (ls : List Recorded). here ++ ls)
    (recorded_more setting later (n + 1) texts text ∙ ap (λ k. recorded_from setting later (n + 1) texts ++ unless_blank (recorded_line setting (past_behind_all setting later texts) k text)) same)
    ∙ sym (append_assoc here (recorded_from setting later (n + 1) texts) (unless_blank (recorded_line setting (past_behind_all setting later texts) (n + suc (length texts)) text)))

-- a line as it is recorded
abbrev noted : ℕ → List ℕ → Speaker → List ℕ → ℕ → Recorded
noted number text speaker reply events = record { number = number; text = text; speaker = speaker; reply = reply; events = events }

-- the lines with one more
pub recorded_on : (setting : Setting) (texts : List (List ℕ)) (line : Answered) → IsAnsweredAfter setting texts line → (before after : List Recorded) → before ≡ recorded_from setting [] 0 texts
    → after ≡ before ++ unless_blank (record { number = line.number; text = line.text.now; speaker = line.speaker; reply = line.reply.now; events = length line.events.items }) → after ≡ recorded_from setting [] 0 (texts ++ line.text.now ∷ [])
recorded_on setting texts line is before after first grown =
    let past = past_of setting texts in
    let text = line.text.now in
    let count : length line.events.items ≡ length (line_step setting past text).events = ap (λ (es : List Event). length es) is.events ∙ length-reverse (line_step setting past text).events in
    let from_start : length texts ≡ 0 + length texts = omega arith in
    let one : noted line.number text line.speaker line.reply.now (length line.events.items) ≡ recorded_line setting past (0 + length texts) text =
    ap (λ k. noted k text line.speaker line.reply.now (length line.events.items)) (is.number ∙ ap number_behind from_start)
    ∙ (ap (λ s. noted (number_behind (0 + length texts)) text s line.reply.now (length line.events.items)) is.speaker
    ∙ (ap (λ r. noted (number_behind (0 + length texts)) text (speaker_of setting.config text) r (length line.events.items)) is.reply
    ∙ ap (λ k. noted (number_behind (0 + length texts)) text (speaker_of setting.config text) (reply_to_line setting past text) k) count)) in
    grown
    ∙ (ap (λ (ls : List Recorded). ls ++ unless_blank (noted line.number text line.speaker line.reply.now (length line.events.items))) first
    ∙ (ap (λ (l : Recorded). recorded_from setting [] 0 texts ++ unless_blank l) one ∙ sym (recorded_more setting [] 0 texts text)))

-- the events with those of one more line
pub events_on : (setting : Setting) (texts : List (List ℕ)) (line : Answered) → IsAnsweredAfter setting texts line → (before after : List Event) → before ≡ reverse (past_of setting texts) → after ≡ before ++ line.events.items
    → after ≡ reverse (past_of setting (texts ++ line.text.now ∷ []))
events_on setting texts line is before after first grown =
    let past = past_of setting texts in
    let text = line.text.now in
    grown
    ∙ (ap (λ (es : List Event). es ++ line.events.items) first
    ∙ (ap (λ (es : List Event). reverse past ++ es) is.events
    ∙ (sym (reverse-append (line_step setting past text).events past) ∙ ap (λ (p : List Event). reverse p) (sym (past_more setting [] texts text)))))

-- a listener that records has heard one more line
pub hears_recorded : {T E : Type 0} (r : Result T E) (before after : List Event) (lines next : List RecordedLine) (host : HostStanding) (line : Answered) → OnOk r (after ≡ before ++ line.events.items)
    → map recorded_as next ≡ map recorded_as lines ++ unless_blank (record { number = line.number; text = line.text.now; speaker = line.speaker; reply = line.reply.now; events = length line.events.items })
    → OnOk r (HearsLine (λ setting texts. IsRecorded setting before lines texts) (λ setting texts. IsRecorded setting after next texts) host line)
hears_recorded (Err e) before after lines next host line more grown = tt
hears_recorded (Ok x) before after lines next host line more grown = λ setting texts w is stands.
    (events_on setting texts line is before after w.0 more, recorded_on setting texts line is (map recorded_as lines) (map recorded_as next) w.1 grown)

module _ (host : HostStanding) (config : Rig) (begins : (setting : Setting) → setting.config ≡ config → Stands setting host (new_base config 0)) (events : List Event) (lines : List RecordedLine) where
  -- the recorded events and lines of a script
  pub events_of_new : (known : Option (List ℕ)) → ForHostReading host known (λ setting bytes. IsRecorded setting events lines (texts_of (cut bytes)))
      → ForNewHostReading config known (λ setting bytes. events ≡ reverse (past_after setting [] (cut bytes)))
  events_of_new None goes = λ setting of. tt
  events_of_new (Some bytes) goes = λ setting of. (goes setting (starts host config begins setting of)).0 ∙ ap (λ (p : List Event). reverse p) (past_texts setting [] (cut bytes))

  pub lines_of_new : (known : Option (List ℕ)) → ForHostReading host known (λ setting bytes. IsRecorded setting events lines (texts_of (cut bytes)))
      → ForNewHostReading config known (λ setting bytes. map recorded_as lines ≡ recorded_of setting bytes)
  lines_of_new None goes = λ setting of. tt
  lines_of_new (Some bytes) goes = λ setting of. (goes setting (starts host config begins setting of)).1
