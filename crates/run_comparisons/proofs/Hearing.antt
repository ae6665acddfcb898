-- The answers of a run after one more line.
use Rattle.std.proofs.Common.{◌≡◌, ◌+◌, ℕ, suc, List, [], ◌∷◌, ◌++◌, length, Result, Ok, Err, OnOk, codes, sym, ap, ◌∙◌, append_assoc, append-nil, arith}
use Rattle.host_core.proofs.of_laws.AloneAlong.{same_clock}
use Rattle.host_core.specs.HostStanding.{HostStanding, line_of}
use Rattle.rig_model.specs.Answered.{reply_line}
use Rattle.rig_model.specs.Base.{Setting}
use Rattle.rig_model.specs.Legal.{next_tick}
use Rattle.rig_model.specs.Script.{lines_step, operator, past_behind, text_of_lines}
use Rattle.rig_model.specs.declared.events.Event.{Event}
use Rattle.rig_script.proofs.cited.LineValues.{same_lines}
use Rattle.rig_script.specs.Instants.{is_instant}
use Rattle.rig_script.specs.cited.Heard.{HearsLine, IsAnsweredAfter}
use Rattle.rig_script.specs.cited.HostAnswers.{IsHostAfter}
use Rattle.rig_script.specs.cited.Past.{past_behind_all, past_of}
use Rattle.rig_script.specs.declared.listeners.Answered.{Answered}
use Rattle.run_comparisons.specs.Answers.{RunAnswer, ShownLine, answers_at, answers_from, shown_line}
use Rattle.run_comparisons.specs.inner.Hearing.{shown_by}

module _ (setting : Setting) (past : List Event) (host : HostStanding) (h : IsHostAfter setting host past) where
  -- the driven lines of the host
  driven_is : reply_line operator (codes "ok lines" ++ text_of_lines (line_of host) host.config.lines) ≡ (lines_step setting past).reply
  driven_is =
      ap (λ k. reply_line operator (codes "ok lines" ++ text_of_lines (line_of host) k)) (ap (λ c. c.lines) h.stands.same_config)
      ∙ ap (λ t. reply_line operator (codes "ok lines" ++ t)) (same_lines setting h.base past h.legal host h.stands setting.config.lines)

  ticks_is : host.clock ≡ next_tick setting past
  ticks_is = h.stands.same_clock ∙ same_clock setting past

answers_more : (setting : Setting) (past : List Event) (n : ℕ) (texts : List (List ℕ)) (text : List ℕ)
    → answers_from setting past n (texts ++ text ∷ []) ≡ answers_from setting past n texts ++ answers_at (shown_line setting (past_behind_all setting past texts) (n + length texts) text)
answers_more setting past n [] text =
    let same : n ≡ n + 0 = omega arith in
    append-nil (answers_at (shown_line setting past n text)) ∙ ap (λ k. answers_at (shown_line setting past k text)) same
answers_more setting past n (first ∷ texts) text =
    let later = past_behind setting past first in
    let here = answers_at (shown_line setting past n first) in
    let same : n + 1 + length texts ≡ n + suc (length texts) = omega arith in
    ap (λ (answers : List RunAnswer). here ++ answers)
    (answers_more setting later (n + 1) texts text ∙ ap (λ k. answers_from setting later (n + 1) texts ++ answers_at (shown_line setting (past_behind_all setting later texts) k text)) same)
    ∙ sym (append_assoc here (answers_from setting later (n + 1) texts) (answers_at (shown_line setting (past_behind_all setting later texts) (n + suc (length texts)) text)))

-- what the host shows after a line is what the rig does
shown_is : (setting : Setting) (texts : List (List ℕ)) (line : Answered) (host : HostStanding) → IsAnsweredAfter setting texts line
    → IsHostAfter setting host (past_behind setting (past_of setting texts) line.text.now) → shown_by host line ≡ shown_line setting (past_of setting texts) (length texts) line.text.now
shown_is setting texts line host is h =
    let later = past_behind setting (past_of setting texts) line.text.now in
    let speaker = is.speaker in
    let tick = ap is_instant is.events in
    let number = is.number in
    let ticks = ticks_is setting later host h in
    let reply = is.reply in
    let driven = driven_is setting later host h in
    cc

-- a listener has heard one more line
pub hears_answers : {T E : Type 0} (r : Result T E) (before after : List RunAnswer) (host : HostStanding) (line : Answered) → OnOk r (after ≡ before ++ answers_at (shown_by host line))
    → OnOk r (HearsLine (λ setting texts. before ≡ answers_from setting [] 0 texts) (λ setting texts. after ≡ answers_from setting [] 0 texts) host line)
hears_answers (Err e) before after host line grown = tt
hears_answers (Ok x) before after host line grown = λ setting texts so is stands.
    let past = past_of setting texts in
    let from_start : length texts ≡ 0 + length texts = omega arith in
    grown
    ∙ (ap (λ (answers : List RunAnswer). answers ++ answers_at (shown_by host line)) so
    ∙ (ap (λ (s : ShownLine). answers_from setting [] 0 texts ++ answers_at s) (shown_is setting texts line host is stands ∙ ap (λ k. shown_line setting past k line.text.now) from_start)
    ∙ sym (answers_more setting [] 0 texts line.text.now)))
