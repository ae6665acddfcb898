-- What is reported of lines, with one more line, and at the end of a script.
use Rattle.std.proofs.Common.{◌≡◌, ◌+◌, ℕ, suc, Bool, true, false, List, [], ◌∷◌, ◌++◌, length, Option, Some, None, Result, Ok, Err, OnOk, refl, sym, ap, ◌∙◌, arith}
use Rattle.std.proofs.lemmas.List.{flat_map_more}
use Rattle.rig_model.specs.config.Roster.{Rig}
use Rattle.rig_model.specs.Base.{Setting}
use Rattle.rig_model.specs.Legal.{next_tick}
use Rattle.rig_model.specs.Plays.{IsSettingOf}
use Rattle.rig_model.specs.Script.{line_step, past_after, past_behind, reply_to_line}
use Rattle.rig_model.specs.TextLines.{cut}
use Rattle.rig_model.specs.declared.events.Event.{Event}
use Rattle.rig_reports.proofs.Standing.{none_between, some_between}
use Rattle.rig_reports.specs.inner.Reported.{reported_from, reported_line, overruns_between, replies_from, replies_of, replies_to, reply_to_bad_line, report_of, report_on_bad_line}
use Rattle.rig_reports.specs.inner.Reporting.{ForEachPastOf, IsReporting, running_up_to, overruns_of}
use Rattle.rig_script.proofs.cited.Behind.{past_more}
use Rattle.rig_script.proofs.cited.LineEvents.{no_instant, one_instant, same_tick}
use Rattle.rig_script.specs.BrokenOff.{ForNewHostReading}
use Rattle.rig_script.specs.Courses.{IsCourseOf}
use Rattle.rig_script.specs.Given.{number_behind, texts_of}
use Rattle.rig_script.specs.cited.Heard.{HearsLine, IsAnsweredAfter}
use Rattle.rig_script.specs.host.HostStanding.{HostStanding}
use Rattle.rig_script.specs.Instants.{is_instant}
use Rattle.rig_script.specs.cited.Past.{past_behind_all, past_of}
use Rattle.rig_script.specs.cited.Refusals.{is_refusal, refusal_in, refusal_of}
use Rattle.rig_script.specs.declared.courses.Course.{Course}
use Rattle.rig_script.specs.declared.listeners.Answered.{Answered}
use Rattle.script_reports.specs.cited.Runs.{line_in}
use Rattle.script_reports.specs.cited.Reports.{ReportedLine, report_on_line, report_on_lines}
use Rattle.script_reports.specs.declared.reports.Overrun.{Overrun}

module _ (setting : Setting) where
  reported_more : (past : List Event) (n : ℕ) (texts : List (List ℕ)) (text : List ℕ)
      → reported_from setting past n (texts ++ text ∷ []) ≡ reported_from setting past n texts ++ reported_line setting (past_behind_all setting past texts) (n + length texts) text ∷ []
  reported_more past n [] text =
      let same : n ≡ n + 0 = omega arith in
      ap (λ k. reported_line setting past k text ∷ []) same
  reported_more past n (first ∷ texts) text =
      let later = past_behind setting past first in
      let same : n + 1 + length texts ≡ n + suc (length texts) = omega arith in
      ap (λ (ls : List ReportedLine). reported_line setting past n first ∷ ls)
      (reported_more later (n + 1) texts text ∙ ap (λ k. reported_from setting later (n + 1) texts ++ reported_line setting (past_behind_all setting later texts) k text ∷ []) same)

  replies_more : (past : List Event) (texts : List (List ℕ)) (text : List ℕ)
      → replies_from setting past (texts ++ text ∷ []) ≡ replies_from setting past texts ++ line_in (reply_to_line setting (past_behind_all setting past texts) text) ∷ []
  replies_more past [] text = refl
  replies_more past (first ∷ texts) text = ap (λ (rs : List (List ℕ)). line_in (reply_to_line setting past first) ∷ rs) (replies_more (past_behind setting past first) texts text)

  module _ (texts : List (List ℕ)) (line : Answered) (is : IsAnsweredAfter setting texts line) where
    abbrev past : List Event
    past = past_of setting texts

    abbrev events : List Event
    events = (line_step setting past line.text.now).events

    abbrev later : List Event
    later = past_behind setting past line.text.now

    further : later ≡ past_of setting (texts ++ line.text.now ∷ [])
    further = sym (past_more setting [] texts line.text.now)

    -- the overruns at the line's instant
    overruns_are : overruns_of setting line.events.items past later ≡ overruns_between setting past later
    overruns_are = by (is_instant line.events.items) refl
      where
        by : (b : Bool) → is_instant line.events.items ≡ b → overruns_of setting line.events.items past later ≡ overruns_between setting past later
        by true e =
            let tick = one_instant setting past line.text.now (ap is_instant (sym is.events) ∙ e) in
            let next : next_tick setting later ≡ next_tick setting past + 1 = ap (λ (es : List Event). next_tick setting (es ++ past)) tick.1 in
            rw e (sym (some_between setting past later (λ same. omega (arith, next, same))))
        by false e = rw e (sym (none_between setting past later (same_tick setting past events (no_instant setting past line.text.now (ap is_instant (sym is.events) ∙ e)))))

    -- a line as it is reported
    abbrev as_reported : ℕ → Option (List ℕ) → List Overrun → ReportedLine
    as_reported number refusal overruns = record { number = number; text = line.text.now; refusal = refusal; overruns = overruns }

    refusal_is : refusal_of line.is_refused line.reply.now ≡ refusal_in (reply_to_line setting past line.text.now)
    refusal_is = ap (λ b. refusal_of b line.reply.now) is.refused ∙ ap (λ r. refusal_of (is_refusal (reply_to_line setting past line.text.now)) r) is.reply

    reported_is : (refusal : Option (List ℕ)) (stops : List Overrun) → refusal ≡ refusal_of line.is_refused line.reply.now → stops ≡ overruns_of setting line.events.items past later
        → as_reported line.number refusal stops ≡ reported_line setting past (0 + length texts) line.text.now
    reported_is refusal stops why are =
        let from_start : length texts ≡ 0 + length texts = omega arith in
        ap (λ k. as_reported k refusal stops) (is.number ∙ ap number_behind from_start)
        ∙ (ap (λ (r : Option (List ℕ)). as_reported (number_behind (0 + length texts)) r stops) (why ∙ refusal_is)
        ∙ ap (λ (os : List Overrun). as_reported (number_behind (0 + length texts)) (refusal_in (reply_to_line setting past line.text.now)) os) (are ∙ overruns_are))

    pub reporting_on : (before after : List ℕ) (ran next : List Bool) (refusal : Option (List ℕ)) (stops : List Overrun) → IsReporting setting before ran texts
        → refusal ≡ refusal_of line.is_refused line.reply.now → stops ≡ overruns_of setting line.events.items past later → next ≡ running_up_to setting later (length setting.config.tenants)
        → after ≡ before ++ report_on_line (record { number = line.number; text = line.text.now; refusal = refusal; overruns = stops }) → IsReporting setting after next (texts ++ line.text.now ∷ [])
    reporting_on before after ran next refusal stops w why are runs grown =
        let first = reported_from setting [] 0 texts in
        let one = reported_line setting past (0 + length texts) line.text.now in (
          grown
              ∙ (ap (λ (l : ReportedLine). before ++ report_on_line l) (reported_is refusal stops why are)
              ∙ (ap (λ t. t ++ report_on_line one) w.0
              ∙ (flat_map_more report_on_line [] first one ∙ ap (λ (ls : List ReportedLine). report_on_lines ls) (sym (reported_more [] 0 texts line.text.now))))),
          runs ∙ ap (λ (p : List Event). running_up_to setting p (length setting.config.tenants)) further,
        )

    pub replies_on : (before after : List (List ℕ)) → before ≡ replies_to setting texts → after ≡ before ++ line_in line.reply.now ∷ [] → after ≡ replies_to setting (texts ++ line.text.now ∷ [])
    replies_on before after so grown =
        grown
        ∙ (ap (λ (rs : List (List ℕ)). rs ++ line_in line.reply.now ∷ []) so
        ∙ (ap (λ r. replies_to setting texts ++ line_in r ∷ []) is.reply ∙ sym (replies_more [] texts line.text.now)))

module _ (config : Rig) (left : Option (List ℕ)) (course : Course) where
  -- the report of a script, with its end
  pub reported : (known : Option (List ℕ)) (listener report : List ℕ) (ran : List Bool) → report ≡ listener ++ report_on_bad_line course.bad_line
      → ForNewHostReading config known (λ setting bytes. IsReporting setting listener ran (texts_of (cut bytes)))
      → ForNewHostReading config known (λ setting bytes. IsCourseOf config bytes left (past_after setting [] (cut bytes)) course)
      → ForNewHostReading config known (λ setting bytes. report ≡ report_of setting bytes)
  reported None listener report ran is heard went = λ setting of. tt
  reported (Some bytes) listener report ran is heard went = λ setting of.
      is
      ∙ (ap (λ t. t ++ report_on_bad_line course.bad_line) (heard setting of).0
      ∙ ap (λ (e : Option ℕ). report_on_lines (reported_from setting [] 0 (texts_of (cut bytes))) ++ report_on_bad_line e) (went setting of).0.0)

  -- the replies of a run, with the reply to the line that ended it
  pub answered : (bytes script : List ℕ) (listener replies : List (List ℕ)) → bytes ≡ script → replies ≡ listener ++ reply_to_bad_line course.bad_line
      → ForNewHostReading config (Some bytes) (λ setting bytes. listener ≡ replies_to setting (texts_of (cut bytes)))
      → ForNewHostReading config (Some bytes) (λ setting bytes. IsCourseOf config bytes left (past_after setting [] (cut bytes)) course)
      → (setting : Setting) → IsSettingOf config setting → replies ≡ replies_of setting script
  answered bytes script listener replies same is heard went setting of =
      is
      ∙ (ap (λ (ls : List (List ℕ)). ls ++ reply_to_bad_line course.bad_line) (heard setting of)
      ∙ (ap (λ (e : Option ℕ). replies_to setting (texts_of (cut bytes)) ++ reply_to_bad_line e) (went setting of).0.0 ∙ ap (λ bs. replies_of setting bs) same))

-- a listener has heard one more line
pub hears_reply : {T E : Type 0} (r : Result T E) (before after : List (List ℕ)) (host : HostStanding) (line : Answered) → OnOk r (after ≡ before ++ line_in line.reply.now ∷ [])
    → OnOk r (HearsLine (λ setting texts. before ≡ replies_to setting texts) (λ setting texts. after ≡ replies_to setting texts) host line)
hears_reply (Err e) before after host line grown = tt
hears_reply (Ok x) before after host line grown = λ setting texts w is stands. replies_on setting texts line is before after w grown

pub hears_report : {T E : Type 0} (r : Result T E) (before after : List ℕ) (ran next : List Bool) (refusal : Option (List ℕ)) (stops : List Overrun) (host : HostStanding) (line : Answered)
    → refusal ≡ refusal_of line.is_refused line.reply.now
    → ((earlier : List Event) → ForEachPastOf host (λ setting past. ran ≡ running_up_to setting earlier (length setting.config.tenants) → stops ≡ overruns_of setting line.events.items earlier past))
    → ForEachPastOf host (λ setting past. next ≡ running_up_to setting past (length setting.config.tenants))
    → OnOk r (after ≡ before ++ report_on_line (record { number = line.number; text = line.text.now; refusal = refusal; overruns = stops }))
    → OnOk r (HearsLine (λ setting texts. IsReporting setting before ran texts) (λ setting texts. IsReporting setting after next texts) host line)
hears_report (Err e) before after ran next refusal stops host line why each runs grown = tt
hears_report (Ok x) before after ran next refusal stops host line why each runs grown = λ setting texts w is stands.
    let later = past_behind setting (past_of setting texts) line.text.now in
    reporting_on setting texts line is before after ran next refusal stops w why (each (past_of setting texts) setting later stands w.1) (runs setting later stands) grown
