-- A listener of a script, after one more line and at the end.
use Rattle.std.proofs.Common.{◌≡◌, ◌-◌, ◌^◌, ◌+◌, ℕ, min, Bool, true, false, List, [], ◌∷◌, ◌++◌, length, reverse, Option, Some, None, IfSome, Result, Ok, refl, ap, subst, ◌∙◌, inl, inr, arith}
use Rattle.std.specs.Prelude.{All}
use Rattle.host_core.specs.HostStanding.{HostStanding}
use Rattle.rig_model.specs.Answered.{IsText}
use Rattle.rig_model.specs.Base.{Setting}
use Rattle.rig_model.specs.Script.{line_step, past_after, past_behind, reply_to_line, script_from, script_text_of, speaker_of}
use Rattle.rig_model.specs.TextLines.{cut}
use Rattle.rig_model.specs.declared.events.Event.{Event}
use Rattle.rig_script.proofs.Noting.{went_so}
use Rattle.rig_script.specs.BrokenOff.{AreBrokenOff}
use Rattle.rig_script.specs.Courses.{IsCourseOf}
use Rattle.rig_script.specs.Given.{number_behind, texts_of}
use Rattle.rig_script.specs.cited.Heard.{ForHostReading, HearsLine, IsHeardBrokenOff}
use Rattle.rig_script.specs.cited.HostAnswers.{IsHostAfter}
use Rattle.rig_script.specs.cited.Past.{ForEachPastReading, past_of}
use Rattle.rig_script.specs.cited.Refusals.{is_refusal}
use Rattle.rig_script.specs.declared.answers.Ending.{Ending}
use Rattle.rig_script.specs.declared.answers.Ending.TheVariants.{Input, BadLine}
use Rattle.rig_script.specs.declared.courses.Course.{Course}
use Rattle.rig_script.specs.declared.faults.ScriptFault.{ScriptFault}
use Rattle.rig_script.specs.declared.faults.ScriptFault.TheVariants.{Memory}
use Rattle.rig_script.specs.declared.listeners.Answered.{Answered}
use Rattle.rig_script.specs.inner.Ended.{end_after}
use Rattle.rig_script.specs.inner.Driver.{IsDriverAfter}

-- one more line is heard
pub heard_on : (setting : Setting) (texts : List (List ℕ)) (past : List Event) (line : Answered) (host : HostStanding) (Before After : Setting → List (List ℕ) → Type 0) → past ≡ past_of setting texts
    → line.number ≡ number_behind (length texts) → line.speaker ≡ speaker_of setting.config line.text.now → line.reply.now ≡ reply_to_line setting past line.text.now
    → line.is_refused ≡ is_refusal (reply_to_line setting past line.text.now) → line.events.items ≡ reverse (line_step setting past line.text.now).events → IsHostAfter setting host (past_behind setting past line.text.now) → HearsLine Before After host line → Before setting texts
    → After setting (texts ++ line.text.now ∷ [])
heard_on setting texts past line host Before After is number speaks said kind events stands hears before =
    hears setting texts before
    (record {
      number = number;
      speaker = speaks;
      reply = said ∙ ap (λ (p : List Event). reply_to_line setting p line.text.now) is;
      refused = kind ∙ ap (λ (p : List Event). is_refusal (reply_to_line setting p line.text.now)) is;
      events = events ∙ ap (λ (p : List Event). reverse (line_step setting p line.text.now).events) is;
    })
    (subst (λ (p : List Event). IsHostAfter setting host (past_behind setting p line.text.now)) is stands)

pub numbered : (before after : ℕ) (texts : List (List ℕ)) → before ≡ min (length texts) (2 ^ 64 - 1) → after ≡ min (before + 1) (2 ^ 64 - 1) → after ≡ number_behind (length texts)
numbered before after texts is grown = omega (arith, is, grown)

module _ (host later : HostStanding) (answered : ℕ) (has whole : Bool) (Before After : Setting → List (List ℕ) → Type 0) (fresh : (setting : Setting) → IsHostAfter setting host [] → Before setting []) where
  begins : (setting : Setting) → IsHostAfter setting host [] → IsDriverAfter setting host 0 false true Before [] []
  begins setting h = (h, refl, (refl, refl, λ e. refl), λ w. fresh setting h)

  -- the driver has gone through the lines of the reader
  abbrev Goes : Option (List ℕ) → Type 0
  Goes known = ForEachPastReading (λ setting texts past. IsDriverAfter setting host 0 false true Before texts past) known
      (λ setting texts past bytes. IsDriverAfter setting later answered has whole After (texts ++ texts_of (cut bytes)) (past_after setting past (cut bytes)))

  pub heard_at_end : (known : Option (List ℕ)) → Goes known → whole ≡ true → ForHostReading host known (λ setting bytes. After setting (texts_of (cut bytes)))
  heard_at_end None goes all = λ setting h. tt
  heard_at_end (Some bytes) goes all = λ setting h. (goes setting [] [] (begins setting h)).3 all

  pub host_at_end : (known : Option (List ℕ)) → Goes known → ForHostReading host known (λ setting bytes. IsHostAfter setting later (past_after setting [] (cut bytes)))
  host_at_end None goes = λ setting h. tt
  host_at_end (Some bytes) goes = λ setting h. (goes setting [] [] (begins setting h)).0

  -- how the script went
  pub course_at_end : (known left : Option (List ℕ)) (ending : Ending) (ok : Result Ending ScriptFault) → ok ≡ Ok ending
      → (ok ≡ Ok Input → IfSome known (λ bytes. All IsText (cut bytes) × (left ≡ Some []))) → (ok ≡ Ok BadLine → IfSome known (λ bytes. ¬ (All IsText (cut bytes))))
      → Goes known → (course : Course) → course.bad_line ≡ end_after ending answered → course.has_tenant ≡ has
      → ForHostReading host known (λ setting bytes. IsCourseOf setting.config bytes left (past_after setting [] (cut bytes)) course)
  course_at_end None left ending ok is input bad goes course line tenant = λ setting h. tt
  course_at_end (Some bytes) left ending ok is input bad goes course line tenant = λ setting h.
      went_so setting.config bytes left setting refl ending answered has ok is input bad (past_after setting [] (cut bytes)) (goes setting [] [] (begins setting h)).2 course line tenant

  -- what is written
  pub written_at_end : (known : Option (List ℕ)) (Written : List ℕ → Type 0)
      → ForEachPastReading (λ setting texts past. IsDriverAfter setting host 0 false true Before texts past) known (λ setting texts past bytes. Written (script_from setting past (cut bytes)))
      → ForHostReading host known (λ setting bytes. Written (script_text_of setting bytes))
  written_at_end None Written goes = λ setting h. tt
  written_at_end (Some bytes) Written goes = λ setting h. goes setting [] [] (begins setting h)

  -- a fault ended it
  pub broken_by_fault : (fault : ScriptFault) (known left : Option (List ℕ)) (Written : List ℕ → Type 0)
      → ForEachPastReading (λ setting texts past. IsDriverAfter setting host 0 false true Before texts past) known (λ setting texts past bytes. AreBrokenOff left Written fault setting past bytes)
      → ForHostReading host known (IsHeardBrokenOff left Written fault)
  broken_by_fault fault None left Written goes = λ setting h. tt
  broken_by_fault fault (Some bytes) left Written goes = λ setting h. inl (goes setting [] [] (begins setting h))

  -- there was no memory for the listener
  pub broken_by_listener : (known left : Option (List ℕ)) (Written : List ℕ → Type 0)
      → ForEachPastReading (λ setting texts past. IsDriverAfter setting host 0 false true Before texts past) known (λ setting texts past bytes. Written (script_from setting past (cut bytes)))
      → ForHostReading host known (IsHeardBrokenOff left Written Memory)
  broken_by_listener None left Written goes = λ setting h. tt
  broken_by_listener (Some bytes) left Written goes = λ setting h. inr (refl, goes setting [] [] (begins setting h))

-- all lines were answered, so nothing is left unread
pub left_at_end : (known left : Option (List ℕ)) (ending : Ending) (ok : Result Ending ScriptFault) → ok ≡ Ok ending
    → (ok ≡ Ok Input → IfSome known (λ bytes. All IsText (cut bytes) × (left ≡ Some []))) → (ok ≡ Ok BadLine → IfSome known (λ bytes. ¬ (All IsText (cut bytes))))
    → IfSome known (λ bytes. All IsText (cut bytes) → left ≡ Some [])
left_at_end None left ending ok is input bad = tt
left_at_end (Some bytes) left Input ok is input bad = λ all. (input is).1
left_at_end (Some bytes) left BadLine ok is input bad = λ all. absurd (bad is all)
