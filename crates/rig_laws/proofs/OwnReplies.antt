-- A tenant's answers grow by the replies to its commands, and by nothing else.
use Rattle.std.proofs.Common.{◌≡◌, ℕ, ◌+◌, ◌-◌, ◌^◌, ◌==◌, nat_lt, Bool, true, false, ℤ, List, [], ◌∷◌, ◌++◌, length, drop, map, reverse, Option, Some, None, codes, refl, sym, ap, ◌∙◌, append_assoc, append-nil}
use Rattle.std.proofs.lemmas.Bool.{eqb-true}
use Rattle.std.proofs.Math.Seq.{drop-append-add}
use Rattle.std.specs.Fmt.{decimal}
use Rattle.giotto_tasks.specs.declared.names.Name.{Name}
use Rattle.rig_model.specs.declared.events.Event.{Event}
use Rattle.rig_model.specs.declared.events.Event.TheVariants.{Own, Tick, Done}
use Rattle.rig_model.specs.declared.jobs.JobId.{JobId}
use Rattle.rig_model.specs.declared.lines.commands.Command.{Command}
use Rattle.rig_model.specs.lines.CommandLine.{command_of_line}
use Rattle.rig_model.specs.lines.Replies.{text_of_reply}
use Rattle.rig_model.specs.lines.Words.{words_of, first_word_of, behind_first_word}
use Rattle.rig_model.specs.config.Roster.{place_of}
use Rattle.rig_model.specs.Answers.{answers_of}
use Rattle.rig_model.specs.Legal.{next_tick}
use Rattle.rig_model.specs.Base.{Setting}
use Rattle.rig_model.specs.Views.{after_command, row_of}
use Rattle.rig_laws.proofs.cited.Places.{first_done}
use Rattle.rig_model.specs.declared.speakers.Speaker.{Speaker}
use Rattle.rig_model.specs.declared.speakers.Speaker.TheVariants.{Nobody, Operator, Tenant, Unknown}
use Rattle.rig_model.specs.Answered.{reply_line}
use Rattle.rig_model.specs.TextLines.{text_of_line}
use Rattle.rig_model.specs.OperatorLines.{OperatorForm, blank, tick, line_values, work, work_of, settle, archive, halt, bad_command, operator_line_of}
use Rattle.rig_model.specs.Script.{Step, lines_step, speaker_of, operator, operator_refusal, operator_step, tick_step, work_step, work_step_of, line_step, only_answered, err_who, outstanding_at, outstanding_after, reply_to_line, past_behind, past_after}
use Rattle.rig_model.specs.TenantReplies.{is_own_command, own_reply, own_replies}

module _ (setting : Setting) (t : ℕ) where
  -- the answers after a step
  abbrev behind : Step → List Event → List ℕ
  behind step past = answers_of setting (step.events ++ past) t

  done_quiet : (js : List JobId) (past : List Event) → answers_of setting (reverse (map Done js) ++ past) t ≡ answers_of setting past t
  done_quiet [] past = refl
  done_quiet (j ∷ js) past = ap (λ (es : List Event). answers_of setting es t) (first_done j js past) ∙ done_quiet js (Done j ∷ past)

  tick_quiet : (past : List Event) (frame : List ℤ) → behind (tick_step setting past frame) past ≡ answers_of setting past t
  tick_quiet past frame = by (length frame == setting.config.lines) refl (nat_lt (next_tick setting past) (2 ^ 64 - 1)) refl
    where
      by : (a : Bool) → (length frame == setting.config.lines) ≡ a → (b : Bool) → nat_lt (next_tick setting past) (2 ^ 64 - 1) ≡ b → behind (tick_step setting past frame) past ≡ answers_of setting past t
      by false e b f =
          let steps : tick_step setting past frame ≡ only_answered (operator_refusal (codes "bad-frame")) = rw e refl in
          ap (λ s. behind s past) steps
      by true e false f =
          let steps : tick_step setting past frame ≡ only_answered (operator_refusal (codes "clock-ended")) = rw (e, f) refl in
          ap (λ s. behind s past) steps
      by true e true f =
          let step : Step = record { events = Tick frame ∷ []; reply = reply_line operator (codes "ok tick " ++ decimal (next_tick setting past)) } in
          let steps : tick_step setting past frame ≡ step = rw (e, f) refl in
          ap (λ s. behind s past) steps

  work_quiet : (past : List Event) (x : Name) → behind (work_step_of setting past x) past ≡ answers_of setting past t
  work_quiet past x = by (place_of setting.config x) refl
    where
      by : (place : Option ℕ) → place_of setting.config x ≡ place → behind (work_step_of setting past x) past ≡ answers_of setting past t
      by None e =
          let steps : work_step_of setting past x ≡ only_answered (operator_refusal (codes "who")) = rw e refl in
          ap (λ s. behind s past) steps
      by (Some u) e =
          let steps : work_step_of setting past x ≡ work_step (outstanding_at setting past u) = rw e refl in
          ap (λ s. behind s past) steps ∙ done_quiet (outstanding_at setting past u) past

  operator_quiet : (past : List Event) (words : List (List ℕ)) → behind (operator_step setting past words) past ≡ answers_of setting past t
  operator_quiet past words = by (operator_line_of words) refl
    where
      refused : operator_step setting past words ≡ only_answered (operator_refusal (codes "bad-command")) → behind (operator_step setting past words) past ≡ answers_of setting past t
      refused steps = ap (λ s. behind s past) steps

      by : (line : OperatorForm) → operator_line_of words ≡ line → behind (operator_step setting past words) past ≡ answers_of setting past t
      by blank e = refused (rw e refl)
      by settle e = refused (rw e refl)
      by archive e = refused (rw e refl)
      by halt e = refused (rw e refl)
      by bad_command e = refused (rw e refl)
      by (tick frame) e =
          let steps : operator_step setting past words ≡ tick_step setting past frame = rw e refl in
          ap (λ s. behind s past) steps ∙ tick_quiet past frame
      by work e =
          let steps : operator_step setting past words ≡ work_step (outstanding_after setting past) = rw e refl in
          ap (λ s. behind s past) steps ∙ done_quiet (outstanding_after setting past) past
      by (work_of x) e =
          let steps : operator_step setting past words ≡ work_step_of setting past x = rw e refl in
          ap (λ s. behind s past) steps ∙ work_quiet past x
      by line_values e =
          let steps : operator_step setting past words ≡ lines_step setting past = rw e refl in
          ap (λ s. behind s past) steps

  -- a line that is no command of the tenant adds nothing to the tenant's replies, and its step doesn't change the answers
  unanswered : (past : List Event) (line : List ℕ) (step : Step) → line_step setting past line ≡ step → own_reply setting t past line ≡ [] → behind step past ≡ answers_of setting past t
      → answers_of setting (past_behind setting past line) t ≡ answers_of setting past t ++ own_reply setting t past line
  unanswered past line step is none quiet =
      ap (λ s. behind s past) is ∙ quiet ∙ sym (ap (λ r. answers_of setting past t ++ r) none ∙ append-nil (answers_of setting past t))

  module _ (past : List Event) (line : List ℕ) (u : ℕ) (speaks : speaker_of setting.config line ≡ Tenant u) where
    of_place : (c : Command) → command_of_line (behind_first_word line) ≡ Some c → (same : Bool) → (u == t) ≡ same
        → answers_of setting (past_behind setting past line) t ≡ answers_of setting past t ++ own_reply setting t past line
    of_place c spelled same e = by same e
      where
        reply : List ℕ
        reply = text_of_reply (after_command setting u c (row_of setting past u)).reply

        step : Step
        step = record { events = Own u c ∷ []; reply = reply_line (first_word_of line) reply }

        steps : line_step setting past line ≡ step
        steps = rw (speaks, spelled) refl

        own : (answers : List ℕ) → u ≡ t → (u == t) ≡ true → behind step past ≡ answers_of setting past t ++ (reply ++ 10 ∷ [])
        own answers is e = rw e (ap (λ k. answers_of setting past t ++ (text_of_reply (after_command setting k c (row_of setting past k)).reply ++ 10 ∷ [])) (sym is))

        shown : (u == t) ≡ true → own_reply setting t past line ≡ reply ++ 10 ∷ []
        shown e =
            let commanded : is_own_command setting t line ≡ true = rw (speaks, spelled, e) refl in
            let is : own_reply setting t past line ≡ drop (length (first_word_of line) + 1) (reply_to_line setting past line) = rw commanded refl in
            is ∙ ap (λ (s : Step). drop (length (first_word_of line) + 1) s.reply) steps ∙ drop-append-add (first_word_of line) (32 ∷ reply ++ 10 ∷ []) 1

        by : (same : Bool) → (u == t) ≡ same → answers_of setting (past_behind setting past line) t ≡ answers_of setting past t ++ own_reply setting t past line
        by true e = ap (λ s. behind s past) steps ∙ own [] (eqb-true u t e) e ∙ ap (λ r. answers_of setting past t ++ r) (sym (shown e))
        by false e = unanswered past line step steps (rw (speaks, spelled, e) refl) (rw e refl)

    of_command : (command : Option Command) → command_of_line (behind_first_word line) ≡ command
        → answers_of setting (past_behind setting past line) t ≡ answers_of setting past t ++ own_reply setting t past line
    of_command None e =
        unanswered past line (only_answered (reply_line (first_word_of line) (codes "err bad-command"))) (rw (speaks, e) refl) (none (u == t)) refl
      where
        none : (b : Bool) → own_reply setting t past line ≡ []
        none b = by (u == t) refl
          where
            by : (b : Bool) → (u == t) ≡ b → own_reply setting t past line ≡ []
            by true f = rw (speaks, e, f) refl
            by false f = rw (speaks, e, f) refl
    of_command (Some c) e = of_place c e (u == t) refl

  answered_line : (past : List Event) (line : List ℕ) → answers_of setting (past_behind setting past line) t ≡ answers_of setting past t ++ own_reply setting t past line
  answered_line past line = by (speaker_of setting.config line) refl
    where
      by : (s : Speaker) → speaker_of setting.config line ≡ s → answers_of setting (past_behind setting past line) t ≡ answers_of setting past t ++ own_reply setting t past line
      by Nobody e = unanswered past line (only_answered []) (rw e refl) (rw e refl) refl
      by Operator e = unanswered past line (operator_step setting past (words_of (behind_first_word line))) (rw e refl) (rw e refl) (operator_quiet past (words_of (behind_first_word line)))
      by (Tenant u) e = of_command past line u e (command_of_line (behind_first_word line)) refl
      by Unknown e = unanswered past line (only_answered err_who) (rw e refl) (rw e refl) refl

pub answered_along : (setting : Setting) (t : ℕ) (past : List Event) (lines : List (List ℕ)) → answers_of setting (past_after setting past lines) t ≡ answers_of setting past t ++ own_replies setting t past lines
answered_along setting t past [] = sym (append-nil (answers_of setting past t))
answered_along setting t past (l ∷ ls) = by (text_of_line l) refl (λ text. answered_along setting t (past_behind setting past text) ls)
  where
    Along : List Event → List (List ℕ) → Type 0
    Along past lines = answers_of setting (past_after setting past lines) t ≡ answers_of setting past t ++ own_replies setting t past lines

    by : (found : Option (List ℕ)) → text_of_line l ≡ found → ((text : List ℕ) → Along (past_behind setting past text) ls) → Along past (l ∷ ls)
    by None f rest =
        let same : past_after setting past (l ∷ ls) ≡ past = rw f refl in
        let none : own_replies setting t past (l ∷ ls) ≡ [] = rw f refl in
        ap (λ (es : List Event). answers_of setting es t) same ∙ sym (ap (λ r. answers_of setting past t ++ r) none ∙ append-nil (answers_of setting past t))
    by (Some text) f rest =
        let next = past_behind setting past text in
        let same : past_after setting past (l ∷ ls) ≡ past_after setting next ls = rw f refl in
        let more : own_replies setting t past (l ∷ ls) ≡ own_reply setting t past text ++ own_replies setting t next ls = rw f refl in
        ap (λ (es : List Event). answers_of setting es t) same ∙ rest text ∙ ap (λ a. a ++ own_replies setting t next ls) (answered_line setting t past text)
        ∙ append_assoc (answers_of setting past t) (own_reply setting t past text) (own_replies setting t next ls) ∙ ap (λ r. answers_of setting past t ++ r) (sym more)
