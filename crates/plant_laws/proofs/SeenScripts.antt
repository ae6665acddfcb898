-- Scripts of which the members see the same: the members see the same of their events, whatever jobs of other tenants either completes.
use Rattle.std.proofs.Common.{◌≡◌, ℕ, ◌+◌, ◌-◌, ◌^◌, ◌==◌, nat_lt, Bool, true, false, cond, not, ◌||◌, ℤ, List, [], ◌∷◌, ◌++◌, length, map, filter, reverse, Option, Some, None, refl, sym, ap, ◌∙◌, subst}
use Rattle.std.specs.List.{enumerate_from, flat_map, list_any, AllByRecursion}
use Rattle.std.specs.Option.{option_and_then, option_map_or}
use Rattle.std.proofs.lemmas.List.{append_cancel_left}
use Rattle.giotto_tasks.specs.declared.names.Name.{Name}
use Rattle.giotto_tasks.proofs.cited.ListLemmas.{all_filtered, all_mapped, all_of, filter-flat_map, same_filter, some_same}
use Rattle.plant_laws.proofs.SeenFrames.{seen_length}
use Rattle.plant_laws.proofs.SeenViews.{AreMembers, earlier, same_answers, same_sources, same_views, seen, seen_completions}
use Rattle.plant_laws.specs.Seen.{seen_frame}
use Rattle.plant_laws.specs.SeenLines.{SeenLine, seen_tick, seen_text, ScriptsDifferUnseen, frame_in, frame_of_form, seen_line}
use Rattle.rig_laws.proofs.cited.Places.{first_done}
use Rattle.rig_model.specs.Answers.{answers_of}
use Rattle.rig_model.specs.Base.{Setting}
use Rattle.rig_model.specs.Completions.{has_completion}
use Rattle.rig_model.specs.DifferingScripts.{is_one_of, is_line_of, without_lines_of}
use Rattle.rig_model.specs.Jobs.{job_of}
use Rattle.rig_model.specs.Legal.{next_tick}
use Rattle.rig_model.specs.OperatorLines.{OperatorForm, blank, tick, line_values, work, work_of, settle, archive, halt, bad_command, operator_line_of}
use Rattle.rig_model.specs.Row.{ActiveTask, Row}
use Rattle.rig_model.specs.Script.{Step, lines_step, speaker_of, operator_step, tenant_step, tick_step, work_step, work_step_of, line_step, outstanding_at, outstanding_after, past_behind, past_after}
use Rattle.rig_model.specs.Sources.{suppliers_of}
use Rattle.rig_model.specs.TenantReplies.{own_replies}
use Rattle.rig_model.specs.TextLines.{text_of_line}
use Rattle.rig_model.specs.Views.{row_of, run_of}
use Rattle.rig_model.specs.config.Roster.{place_of}
use Rattle.rig_model.specs.declared.config.TenantConfig.{TenantConfig}
use Rattle.rig_model.specs.declared.events.Event.{Event}
use Rattle.rig_model.specs.declared.events.Event.TheVariants.{Own, Tick, Done}
use Rattle.rig_model.specs.declared.jobs.JobId.{JobId}
use Rattle.rig_model.specs.declared.lines.commands.Command.{Command}
use Rattle.rig_model.specs.declared.speakers.Speaker.{Speaker}
use Rattle.rig_model.specs.declared.speakers.Speaker.TheVariants.{Nobody, Operator, Tenant, Unknown}
use Rattle.rig_model.specs.lines.CommandLine.{command_of_line}
use Rattle.rig_model.specs.lines.Words.{words_of, first_word_of, behind_first_word}
use Rattle.tenant_sources.specs.Links.{is_source_of}

-- the flattened lists are equal if the lists are equal for each element
flat_each : {X Y : Type 0} (f g : X → List Y) (xs : List X) → ((x : X) → f x ≡ g x) → flat_map f xs ≡ flat_map g xs
flat_each f g xs each = λ k. flat_map (λ x. each x k) xs

-- a filter that no element passes
none_pass : {X : Type 0} (test : X → Bool) (xs : List X) → AllByRecursion (λ x. test x ≡ false) xs → filter test xs ≡ []
none_pass test [] all = refl
none_pass test (x ∷ xs) all = ap (λ b. cond b (x ∷ filter test xs) (filter test xs)) all.0 ∙ none_pass test xs all.1

not_true : (b : Bool) → not b ≡ true → b ≡ false
not_true true e = sym e
not_true false e = refl

module _ (setting : Setting) (members : ℕ → Bool) where
  -- those of these jobs that are jobs of members
  abbrev jobs_of : List JobId → List JobId
  jobs_of js = filter (λ (j : JobId). members j.tenant) js

  abbrev seen_past : List Event → List Event
  seen_past past = seen setting members past

  -- completions add only themselves, and the members see their own
  seen_done : (js : List JobId) (past : List Event) → seen_past (reverse (map Done js) ++ past) ≡ reverse (map Done (jobs_of js)) ++ seen_past past
  seen_done [] past = refl
  seen_done (j ∷ js) past = ap seen_past (first_done j js past) ∙ (seen_done js (Done j ∷ past) ∙ by (members j.tenant))
    where
      kept : List Event
      kept = seen_past past

      later : List JobId
      later = jobs_of js

      by : (b : Bool) → reverse (map Done later) ++ cond b (Done j ∷ kept) kept ≡ reverse (map Done (cond b (j ∷ later) later)) ++ kept
      by true = sym (first_done j later kept)
      by false = refl

  -- the members see each instant
  seen_ticks : (past : List Event) → next_tick setting (seen_past past) ≡ next_tick setting past
  seen_ticks [] = refl
  seen_ticks (Tick frame ∷ past) = ap (λ n. n + 1) (seen_ticks past)
  seen_ticks (Own u c ∷ past) = by (members u) (seen_ticks past)
    where
      by : (b : Bool) → next_tick setting (seen_past past) ≡ next_tick setting past → next_tick setting (cond b (Own u c ∷ seen_past past) (seen_past past)) ≡ next_tick setting past
      by true same = same
      by false same = same
  seen_ticks (Done j ∷ past) = by (members j.tenant) (seen_ticks past)
    where
      by : (b : Bool) → next_tick setting (seen_past past) ≡ next_tick setting past → next_tick setting (cond b (Done j ∷ seen_past past) (seen_past past)) ≡ next_tick setting past
      by true same = same
      by false same = same

  -- the outstanding jobs of a tenant that is no member are no member's
  outstanding_elsewhere : (past : List Event) (t : ℕ) → members t ≡ false → jobs_of (outstanding_at setting past t) ≡ []
  outstanding_elsewhere past t e =
      none_pass (λ (j : JobId). members j.tenant) (outstanding_at setting past t)
      (all_filtered (λ (j : JobId). members j.tenant ≡ false) (job_of t) (λ j. not (has_completion setting past j)) (row_of setting past t).active
      (all_of {P = λ (a : ActiveTask). members t ≡ false} (λ a. e) (row_of setting past t).active))

  module _ (itself : (past : List Event) (t : ℕ) → is_source_of setting past t t ≡ true)
      (forward : (past : List Event) (frame : List ℤ) (t u : ℕ)
      → is_source_of setting (Tick frame ∷ past) t u ≡ (is_source_of setting past t u || list_any (λ v. is_source_of setting past v u) (suppliers_of setting (row_of setting past t)))) where
    -- all sources of members are members
    abbrev pub AreClosed : List Event → Type 0
    AreClosed past = (t : ℕ) → members t ≡ true → AreMembers setting members past t

    closed_before : (e : Event) (past : List Event) → AreClosed (e ∷ past) → AreClosed past
    closed_before (Own u c) past closed t is = closed t is
    closed_before (Done j) past closed t is = closed t is
    closed_before (Tick frame) past closed t is = earlier setting members itself forward frame past t (closed t is)

    closed_earlier : (events past : List Event) → AreClosed (events ++ past) → AreClosed past
    closed_earlier [] past closed = closed
    closed_earlier (e ∷ events) past closed = closed_earlier events past (closed_before e (events ++ past) closed)

    closed_second : (past others : List Event) → seen_past past ≡ seen_past others → AreClosed past → AreClosed others
    closed_second past others same closed t is u h = closed t is u (same_sources setting members itself forward past others t same (closed t is) u ∙ h)

    -- two lists of which the members see the same, if the sources of members in the first are members
    module _ (past others : List Event) (same : seen_past past ≡ seen_past others) (closed : AreClosed past) where
      same_row : (t : ℕ) → members t ≡ true → row_of setting past t ≡ row_of setting others t
      same_row t is = ap (run_of setting t) (same_views setting members itself forward past others t same (closed t is))

      same_completed : (j : JobId) → members j.tenant ≡ true → has_completion setting past j ≡ has_completion setting others j
      same_completed j is =
          sym (seen_completions setting members past j is)
          ∙ (ap (λ (events : List Event). has_completion setting events j) same ∙ seen_completions setting members others j is)

      same_ticks : next_tick setting past ≡ next_tick setting others
      same_ticks = sym (seen_ticks past) ∙ (ap (next_tick setting) same ∙ seen_ticks others)

      of_member : (t : ℕ) → members t ≡ true → outstanding_at setting past t ≡ outstanding_at setting others t
      of_member t e =
          ap (λ (row : Row). filter (is_open past) (map (job_of t) row.active)) (same_row t e)
          ∙ same_filter (is_open past) (is_open others) (map (job_of t) active)
          (all_mapped (λ j. is_open past j ≡ is_open others j) (job_of t) active
          (all_of {P = λ (a : ActiveTask). is_open past (job_of t a) ≡ is_open others (job_of t a)} (λ a. ap not (same_completed (job_of t a) e)) active))
        where
          active : List ActiveTask
          active = (row_of setting others t).active

          is_open : List Event → JobId → Bool
          is_open events j = not (has_completion setting events j)

      same_outstanding : (t : ℕ) → jobs_of (outstanding_at setting past t) ≡ jobs_of (outstanding_at setting others t)
      same_outstanding t = by (members t) refl
        where
          by : (b : Bool) → members t ≡ b → jobs_of (outstanding_at setting past t) ≡ jobs_of (outstanding_at setting others t)
          by true e = ap jobs_of (of_member t e)
          by false e = outstanding_elsewhere past t e ∙ sym (outstanding_elsewhere others t e)

      all_outstanding : jobs_of (outstanding_after setting past) ≡ jobs_of (outstanding_after setting others)
      all_outstanding =
          sym (filter-flat_map belongs (at_each past) places)
          ∙ (flat_each (λ place. jobs_of (at_each past place)) (λ place. jobs_of (at_each others place)) places (λ place. same_outstanding place.0)
          ∙ filter-flat_map belongs (at_each others) places)
        where
          places : List (ℕ × TenantConfig)
          places = enumerate_from 0 setting.config.tenants

          at_each : List Event → ℕ × TenantConfig → List JobId
          at_each events place = outstanding_at setting events place.0

          belongs : JobId → Bool
          belongs j = members j.tenant

      -- the members see the same after what these steps add
      abbrev SameAfter : Step → Step → Type 0
      SameAfter step other = seen_past (step.events ++ past) ≡ seen_past (other.events ++ others)

      by_steps : (s t u v : Step) → s ≡ t → u ≡ v → SameAfter t v → SameAfter s u
      by_steps s t u v here there after = ap (λ (x : Step). seen_past (x.events ++ past)) here ∙ (after ∙ sym (ap (λ (x : Step). seen_past (x.events ++ others)) there))

      by_events : (s u : Step) (a b : List Event) → s.events ≡ a → u.events ≡ b → seen_past (a ++ past) ≡ seen_past (b ++ others) → SameAfter s u
      by_events s u a b here there after = ap (λ (es : List Event). seen_past (es ++ past)) here ∙ (after ∙ sym (ap (λ (es : List Event). seen_past (es ++ others)) there))

      quiet : (s u : Step) → s.events ≡ [] → u.events ≡ [] → SameAfter s u
      quiet s u here there = by_events s u [] [] here there same

      same_work : (js ks : List JobId) → jobs_of js ≡ jobs_of ks → SameAfter (work_step js) (work_step ks)
      same_work js ks jobs =
          seen_done js past
          ∙ (ap (λ (is : List JobId). reverse (map Done is) ++ seen_past past) jobs
          ∙ (ap (λ (es : List Event). reverse (map Done (jobs_of ks)) ++ es) same ∙ sym (seen_done ks others)))

      same_work_of : (x : Name) → SameAfter (work_step_of setting past x) (work_step_of setting others x)
      same_work_of x = by (place_of setting.config x) refl
        where
          by : (place : Option ℕ) → place_of setting.config x ≡ place → SameAfter (work_step_of setting past x) (work_step_of setting others x)
          by None e = quiet (work_step_of setting past x) (work_step_of setting others x) (rw e refl) (rw e refl)
          by (Some t) e =
              let here : work_step_of setting past x ≡ work_step (outstanding_at setting past t) = rw e refl in
              let there : work_step_of setting others x ≡ work_step (outstanding_at setting others t) = rw e refl in
              by_steps (work_step_of setting past x) (work_step (outstanding_at setting past t)) (work_step_of setting others x) (work_step (outstanding_at setting others t)) here there
              (same_work (outstanding_at setting past t) (outstanding_at setting others t) (same_outstanding t))

      same_tick : (f g : List ℤ) → seen_frame setting.config members f ≡ seen_frame setting.config members g → SameAfter (tick_step setting past f) (tick_step setting others g)
      same_tick f g frames = by (length f == setting.config.lines) refl (nat_lt (next_tick setting past) (2 ^ 64 - 1)) refl
        where
          lengths : length g ≡ length f
          lengths = sym (seen_length setting.config members 0 g) ∙ (ap (λ (zs : List ℤ). length zs) (sym frames) ∙ seen_length setting.config members 0 f)

          by : (a : Bool) → (length f == setting.config.lines) ≡ a → (b : Bool) → nat_lt (next_tick setting past) (2 ^ 64 - 1) ≡ b → SameAfter (tick_step setting past f) (tick_step setting others g)
          by false e b h =
              let i : (length g == setting.config.lines) ≡ false = ap (λ n. n == setting.config.lines) lengths ∙ e in
              quiet (tick_step setting past f) (tick_step setting others g) (rw e refl) (rw i refl)
          by true e false h =
              let i : (length g == setting.config.lines) ≡ true = ap (λ n. n == setting.config.lines) lengths ∙ e in
              let j : nat_lt (next_tick setting others) (2 ^ 64 - 1) ≡ false = ap (λ n. nat_lt n (2 ^ 64 - 1)) (sym same_ticks) ∙ h in
              quiet (tick_step setting past f) (tick_step setting others g) (rw (e, h) refl) (rw (i, j) refl)
          by true e true h =
              let i : (length g == setting.config.lines) ≡ true = ap (λ n. n == setting.config.lines) lengths ∙ e in
              let j : nat_lt (next_tick setting others) (2 ^ 64 - 1) ≡ true = ap (λ n. nat_lt n (2 ^ 64 - 1)) (sym same_ticks) ∙ h in
              by_events (tick_step setting past f) (tick_step setting others g) (Tick f ∷ []) (Tick g ∷ []) (rw (e, h) refl) (rw (i, j) refl)
              (ap (λ (zs : List ℤ). Tick zs ∷ seen_past past) frames ∙ ap (λ (es : List Event). Tick (seen_frame setting.config members g) ∷ es) same)

      same_operator : (words : List (List ℕ)) → SameAfter (operator_step setting past words) (operator_step setting others words)
      same_operator words = by (operator_line_of words) refl
        where
          first : Step
          first = operator_step setting past words

          second : Step
          second = operator_step setting others words

          by : (line : OperatorForm) → operator_line_of words ≡ line → SameAfter first second
          by blank e = quiet first second (rw e refl) (rw e refl)
          by settle e = quiet first second (rw e refl) (rw e refl)
          by archive e = quiet first second (rw e refl) (rw e refl)
          by halt e = quiet first second (rw e refl) (rw e refl)
          by bad_command e = quiet first second (rw e refl) (rw e refl)
          by (tick frame) e =
              let here : operator_step setting past words ≡ tick_step setting past frame = rw e refl in
              let there : operator_step setting others words ≡ tick_step setting others frame = rw e refl in
              by_steps first (tick_step setting past frame) second (tick_step setting others frame) here there (same_tick frame frame refl)
          by work e =
              let here : operator_step setting past words ≡ work_step (outstanding_after setting past) = rw e refl in
              let there : operator_step setting others words ≡ work_step (outstanding_after setting others) = rw e refl in
              by_steps first (work_step (outstanding_after setting past)) second (work_step (outstanding_after setting others)) here there
              (same_work (outstanding_after setting past) (outstanding_after setting others) all_outstanding)
          by (work_of x) e =
              let here : operator_step setting past words ≡ work_step_of setting past x = rw e refl in
              let there : operator_step setting others words ≡ work_step_of setting others x = rw e refl in
              by_steps first (work_step_of setting past x) second (work_step_of setting others x) here there (same_work_of x)
          by line_values e =
              let here : operator_step setting past words ≡ lines_step setting past = rw e refl in
              let there : operator_step setting others words ≡ lines_step setting others = rw e refl in
              by_steps first (lines_step setting past) second (lines_step setting others) here there same

      same_tenant : (t : ℕ) (who : Name) (line : List ℕ) → SameAfter (tenant_step setting past t who line) (tenant_step setting others t who line)
      same_tenant t who line = by (command_of_line line) refl
        where
          by : (spelled : Option Command) → command_of_line line ≡ spelled → SameAfter (tenant_step setting past t who line) (tenant_step setting others t who line)
          by None e = quiet (tenant_step setting past t who line) (tenant_step setting others t who line) (rw e refl) (rw e refl)
          by (Some c) e =
              by_events (tenant_step setting past t who line) (tenant_step setting others t who line) (Own t c ∷ []) (Own t c ∷ []) (rw e refl) (rw e refl)
              (ap (λ (es : List Event). cond (members t) (Own t c ∷ es) es) same)

      -- after the same text
      same_text : (line : List ℕ) → SameAfter (line_step setting past line) (line_step setting others line)
      same_text line = by (speaker_of setting.config line) refl
        where
          first : Step
          first = line_step setting past line

          second : Step
          second = line_step setting others line

          words : List (List ℕ)
          words = words_of (behind_first_word line)

          own : List Event → ℕ → Step
          own events t = tenant_step setting events t (first_word_of line) (behind_first_word line)

          by : (s : Speaker) → speaker_of setting.config line ≡ s → SameAfter first second
          by Nobody e = quiet first second (rw e refl) (rw e refl)
          by Operator e =
              let here : line_step setting past line ≡ operator_step setting past words = rw e refl in
              let there : line_step setting others line ≡ operator_step setting others words = rw e refl in
              by_steps first (operator_step setting past words) second (operator_step setting others words) here there (same_operator words)
          by (Tenant t) e =
              let here : line_step setting past line ≡ own past t = rw e refl in
              let there : line_step setting others line ≡ own others t = rw e refl in
              by_steps first (own past t) second (own others t) here there (same_tenant t (first_word_of line) (behind_first_word line))
          by Unknown e = quiet first second (rw e refl) (rw e refl)

    -- a text with a frame is a tick
    ticks : (past : List Event) (text : List ℕ) (zs : List ℤ) → frame_in setting.config text ≡ Some zs → line_step setting past text ≡ tick_step setting past zs
    ticks past text zs found = by (speaker_of setting.config text) refl
      where
        words : List (List ℕ)
        words = words_of (behind_first_word text)

        of_form : speaker_of setting.config text ≡ Operator → (form : OperatorForm) → operator_line_of words ≡ form → line_step setting past text ≡ tick_step setting past zs
        of_form speaks (tick frame) e =
            let is : Some frame ≡ Some zs = let h : frame_in setting.config text ≡ Some frame = rw (speaks, e) refl in sym h ∙ found in
            let here : line_step setting past text ≡ tick_step setting past frame = rw (speaks, e) refl in
            here ∙ ap (tick_step setting past) (some_same frame zs is)
        of_form speaks blank e = let h : frame_in setting.config text ≡ None = rw (speaks, e) refl in absurd (cc)
        of_form speaks line_values e = let h : frame_in setting.config text ≡ None = rw (speaks, e) refl in absurd (cc)
        of_form speaks work e = let h : frame_in setting.config text ≡ None = rw (speaks, e) refl in absurd (cc)
        of_form speaks (work_of x) e = let h : frame_in setting.config text ≡ None = rw (speaks, e) refl in absurd (cc)
        of_form speaks settle e = let h : frame_in setting.config text ≡ None = rw (speaks, e) refl in absurd (cc)
        of_form speaks archive e = let h : frame_in setting.config text ≡ None = rw (speaks, e) refl in absurd (cc)
        of_form speaks halt e = let h : frame_in setting.config text ≡ None = rw (speaks, e) refl in absurd (cc)
        of_form speaks bad_command e = let h : frame_in setting.config text ≡ None = rw (speaks, e) refl in absurd (cc)

        by : (s : Speaker) → speaker_of setting.config text ≡ s → line_step setting past text ≡ tick_step setting past zs
        by Nobody e = let h : frame_in setting.config text ≡ None = rw e refl in absurd (cc)
        by Operator e = of_form e (operator_line_of words) refl
        by (Tenant t) e = let h : frame_in setting.config text ≡ None = rw e refl in absurd (cc)
        by Unknown e = let h : frame_in setting.config text ≡ None = rw e refl in absurd (cc)

    abbrev outside : ℕ → Bool
    outside t = not (members t)

    -- a line of another tenant changes nothing that the members see
    unseen_text : (past : List Event) (line : List ℕ) → is_one_of outside (speaker_of setting.config line) ≡ true → seen_past (past_behind setting past line) ≡ seen_past past
    unseen_text past line one = by (speaker_of setting.config line) refl one
      where
        of_command : (u : ℕ) → speaker_of setting.config line ≡ Tenant u → members u ≡ false → (spelled : Option Command) → command_of_line (behind_first_word line) ≡ spelled
            → seen_past (past_behind setting past line) ≡ seen_past past
        of_command u speaks e None f = let none : (line_step setting past line).events ≡ [] = rw (speaks, f) refl in ap (λ (es : List Event). seen_past (es ++ past)) none
        of_command u speaks e (Some c) f =
            let one : (line_step setting past line).events ≡ Own u c ∷ [] = rw (speaks, f) refl in
            ap (λ (es : List Event). seen_past (es ++ past)) one ∙ ap (λ b. cond b (Own u c ∷ seen_past past) (seen_past past)) e

        by : (s : Speaker) → speaker_of setting.config line ≡ s → is_one_of outside s ≡ true → seen_past (past_behind setting past line) ≡ seen_past past
        by Nobody speaks e = absurd (cc)
        by Operator speaks e = absurd (cc)
        by (Tenant u) speaks e = of_command u speaks (not_true (members u) e) (command_of_line (behind_first_word line)) refl
        by Unknown speaks e = absurd (cc)

    -- the members see the same of two lists, if their sources in the first are members
    abbrev SeeSame : List Event → List Event → Type 0
    SeeSame past others = AreClosed past → seen_past past ≡ seen_past others

    both_by : (line other : List ℕ) (past others : List Event) → ((same : seen_past past ≡ seen_past others) → AreClosed past → seen_past (past_behind setting past line) ≡ seen_past (past_behind setting others other))
        → SeeSame past others → SeeSame (past_behind setting past line) (past_behind setting others other)
    both_by line other past others step see closed =
        let before = closed_earlier (line_step setting past line).events past closed in
        step (see before) before

    both : (line : List ℕ) (past others : List Event) → SeeSame past others → SeeSame (past_behind setting past line) (past_behind setting others line)
    both line past others = both_by line line past others (λ same closed. same_text past others same closed line)

    first_alone : (line : List ℕ) (past others : List Event) → is_one_of outside (speaker_of setting.config line) ≡ true → SeeSame past others → SeeSame (past_behind setting past line) others
    first_alone line past others one see closed = unseen_text past line one ∙ see (closed_earlier (line_step setting past line).events past closed)

    second_alone : (line : List ℕ) (past others : List Event) → is_one_of outside (speaker_of setting.config line) ≡ true → SeeSame others past → SeeSame others (past_behind setting past line)
    second_alone line past others one see closed = see closed ∙ sym (unseen_text past line one)

    abbrev left_in : List (List ℕ) → List (List ℕ)
    left_in lines = without_lines_of setting.config outside lines

    in_place : (R : List Event → List Event → Type 0) (a b c d : List Event) → a ≡ b → c ≡ d → R b d → R a c
    in_place R a b c d here there r = subst (λ (x : List Event). R x c) (sym here) (subst (λ (x : List Event). R b x) (sym there) r)

    -- A relation holds between a script and the script without the lines of other tenants, if it is kept by the same line in both, and by a line of
    -- such a tenant in the first script alone.
    along : (R : List Event → List Event → Type 0)
        → ((line : List ℕ) (past others : List Event) → R past others → R (past_behind setting past line) (past_behind setting others line))
        → ((line : List ℕ) (past others : List Event) → is_one_of outside (speaker_of setting.config line) ≡ true → R past others → R (past_behind setting past line) others)
        → (lines : List (List ℕ)) (past others : List Event) → R past others → R (past_after setting past lines) (past_after setting others (left_in lines))
    along R same first [] past others r = r
    along R same first (line ∷ lines) past others r = by (text_of_line line) refl (along R same first lines)
      where
        Further : Type 0
        Further = (earlier those : List Event) → R earlier those → R (past_after setting earlier lines) (past_after setting those (left_in lines))

        Goal : Type 0
        Goal = R (past_after setting past (line ∷ lines)) (past_after setting others (left_in (line ∷ lines)))

        spoken : Option (List ℕ) → Bool
        spoken text = option_map_or (λ text. is_one_of outside (speaker_of setting.config text)) text false

        left : (b : Bool) → is_line_of setting.config outside line ≡ b → left_in (line ∷ lines) ≡ cond (not b) (line ∷ left_in lines) (left_in lines)
        left b e = ap (λ b. cond (not b) (line ∷ left_in lines) (left_in lines)) e

        of_text : (text : List ℕ) → text_of_line line ≡ Some text → (one : Bool) → is_one_of outside (speaker_of setting.config text) ≡ one → Further → Goal
        of_text text f true e further =
            let next = past_behind setting past text in
            let here : past_after setting past (line ∷ lines) ≡ past_after setting next lines = rw f refl in
            let there : left_in (line ∷ lines) ≡ left_in lines = left true (ap spoken f ∙ e) in
            in_place R (past_after setting past (line ∷ lines)) (past_after setting next lines) (past_after setting others (left_in (line ∷ lines))) (past_after setting others (left_in lines))
            here (ap (past_after setting others) there) (further next others (first text past others e r))
        of_text text f false e further =
            let next = past_behind setting past text in
            let other = past_behind setting others text in
            let here : past_after setting past (line ∷ lines) ≡ past_after setting next lines = rw f refl in
            let stays : left_in (line ∷ lines) ≡ line ∷ left_in lines = left false (ap spoken f ∙ e) in
            let there : past_after setting others (line ∷ left_in lines) ≡ past_after setting other (left_in lines) = rw f refl in
            in_place R (past_after setting past (line ∷ lines)) (past_after setting next lines) (past_after setting others (left_in (line ∷ lines))) (past_after setting other (left_in lines))
            here (ap (past_after setting others) stays ∙ there) (further next other (same text past others r))

        by : (text : Option (List ℕ)) → text_of_line line ≡ text → Further → Goal
        by None f further =
            let here : past_after setting past (line ∷ lines) ≡ past = rw f refl in
            let stays : left_in (line ∷ lines) ≡ line ∷ left_in lines = left false (ap spoken f) in
            let there : past_after setting others (line ∷ left_in lines) ≡ others = rw f refl in
            in_place R (past_after setting past (line ∷ lines)) past (past_after setting others (left_in (line ∷ lines))) others here (ap (past_after setting others) stays ∙ there) r
        by (Some text) f further = of_text text f (is_one_of outside (speaker_of setting.config text)) refl further

    -- two lines that the members see as the same

    abbrev see : List ℕ → SeenLine
    see line = seen_line setting.config members line

    abbrev as_seen : List ℕ → Option (List ℤ) → SeenLine
    as_seen line found = option_map_or (λ frame. seen_tick (seen_frame setting.config members frame)) found (seen_text line)

    see_text : (line text : List ℕ) (found : Option (List ℤ)) → text_of_line line ≡ Some text → frame_in setting.config text ≡ found → see line ≡ as_seen line found
    see_text line text found f e = ap (λ (o : Option (List ℕ)). as_seen line (option_and_then (frame_in setting.config) o)) f ∙ ap (as_seen line) e

    see_none : (line : List ℕ) → text_of_line line ≡ None → see line ≡ seen_text line
    see_none line f = ap (λ (o : Option (List ℕ)). as_seen line (option_and_then (frame_in setting.config) o)) f

    same_line : (line other : List ℕ) → seen_text line ≡ seen_text other → line ≡ other
    same_line line other e = cc

    same_frame : (f g : List ℤ) → seen_tick f ≡ seen_tick g → f ≡ g
    same_frame f g e = cc

    not_both : (f : List ℤ) (line : List ℕ) {P : Type 0} → seen_tick f ≡ seen_text line → P
    not_both f line e = absurd (cc)

    pairs : (lines others : List (List ℕ)) (past those : List Event) → map see lines ≡ map see others → SeeSame past those → SeeSame (past_after setting past lines) (past_after setting those others)
    pairs [] [] past those same r = r
    pairs [] (other ∷ others) past those same r = absurd (cc same)
    pairs (line ∷ lines) [] past those same r = absurd (cc same)
    pairs (line ∷ lines) (other ∷ others) past those same r =
        let one : see line ≡ see other = cc same in
        let rest : map see lines ≡ map see others = cc same in
        by (text_of_line line) refl (text_of_line other) refl one (λ p q. pairs lines others p q rest)
      where
        Further : Type 0
        Further = (p q : List Event) → SeeSame p q → SeeSame (past_after setting p lines) (past_after setting q others)

        Goal : Type 0
        Goal = SeeSame (past_after setting past (line ∷ lines)) (past_after setting those (other ∷ others))

        further_on : (text second : List ℕ) → text_of_line line ≡ Some text → text_of_line other ≡ Some second
            → SeeSame (past_behind setting past text) (past_behind setting those second) → Further → Goal
        further_on text second f g step further =
            let here : past_after setting past (line ∷ lines) ≡ past_after setting (past_behind setting past text) lines = rw f refl in
            let there : past_after setting those (other ∷ others) ≡ past_after setting (past_behind setting those second) others = rw g refl in
            in_place SeeSame (past_after setting past (line ∷ lines)) (past_after setting (past_behind setting past text) lines) (past_after setting those (other ∷ others))
            (past_after setting (past_behind setting those second) others) here there (further (past_behind setting past text) (past_behind setting those second) step)

        of_texts : (text second : List ℕ) → text_of_line line ≡ Some text → text_of_line other ≡ Some second → see line ≡ see other
            → (found : Option (List ℤ)) → frame_in setting.config text ≡ found → (also : Option (List ℤ)) → frame_in setting.config second ≡ also → Further → Goal
        of_texts text second f g one (Some zs) e (Some ys) h further =
            let frames = same_frame (seen_frame setting.config members zs) (seen_frame setting.config members ys) (sym (see_text line text (Some zs) f e) ∙ (one ∙ see_text other second (Some ys) g h)) in
            further_on text second f g
            (both_by text second past those
            (λ same closed. by_steps past those same closed (line_step setting past text) (tick_step setting past zs) (line_step setting those second) (tick_step setting those ys)
            (ticks past text zs e) (ticks those second ys h) (same_tick past those same closed zs ys frames)) r) further
        of_texts text second f g one None e None h further =
            let lines_same = same_line line other (sym (see_text line text None f e) ∙ (one ∙ see_text other second None g h)) in
            let texts = some_same text second (sym f ∙ (ap text_of_line lines_same ∙ g)) in
            further_on text second f g (subst (λ (x : List ℕ). SeeSame (past_behind setting past text) (past_behind setting those x)) texts (both text past those r)) further
        of_texts text second f g one (Some zs) e None h further =
            not_both (seen_frame setting.config members zs) other (sym (see_text line text (Some zs) f e) ∙ (one ∙ see_text other second None g h))
        of_texts text second f g one None e (Some ys) h further =
            not_both (seen_frame setting.config members ys) line (sym (see_text other second (Some ys) g h) ∙ (sym one ∙ see_text line text None f e))

        -- a line without a text is seen as it is, and so is the other one
        apart : (found : Option (List ℤ)) (line other : List ℕ) → seen_text line ≡ as_seen other found → line ≡ other
        apart None line other e = cc
        apart (Some zs) line other e = absurd (cc)

        by : (text : Option (List ℕ)) → text_of_line line ≡ text → (second : Option (List ℕ)) → text_of_line other ≡ second → see line ≡ see other → Further → Goal
        by None f None g one further =
            let here : past_after setting past (line ∷ lines) ≡ past = rw f refl in
            let there : past_after setting those (other ∷ others) ≡ those = rw g refl in
            in_place SeeSame (past_after setting past (line ∷ lines)) past (past_after setting those (other ∷ others)) those here there r
        by (Some text) f (Some second) g one further = of_texts text second f g one (frame_in setting.config text) refl (frame_in setting.config second) refl further
        by None f (Some second) g one further =
            let same = apart (frame_in setting.config second) line other (sym (see_none line f) ∙ (one ∙ see_text other second (frame_in setting.config second) g refl)) in
            let none : None ≡ Some second = sym f ∙ (ap text_of_line same ∙ g) in
            absurd (cc)
        by (Some text) f None g one further =
            let same = apart (frame_in setting.config text) other line (sym (see_none other g) ∙ (sym one ∙ see_text line text (frame_in setting.config text) f refl)) in
            let none : None ≡ Some text = sym g ∙ (ap text_of_line same ∙ f) in
            absurd (cc)

    -- the members see the same of the events of both scripts
    pub same_events : (past : List Event) (lines others : List (List ℕ)) → AreClosed (past_after setting past lines) → map see (left_in lines) ≡ map see (left_in others)
        → seen_past (past_after setting past lines) ≡ seen_past (past_after setting past others)
    same_events past lines others closed same =
        let first = along SeeSame both first_alone lines past past (λ c. refl) closed in
        let between = pairs (left_in lines) (left_in others) past past same (λ c. refl) (closed_second (past_after setting past lines) (past_after setting past (left_in lines)) first closed) in
        let left_closed = closed_second (past_after setting past lines) (past_after setting past (left_in others)) (first ∙ between) closed in
        let second = along (λ p q. SeeSame q p) (λ line p q see. both line q p see) second_alone others past past (λ c. refl) left_closed in
        first ∙ (between ∙ second)

    -- the replies to a member are the same; `replied` says that answers grow by replies
    pub same_replies : ((t : ℕ) (past : List Event) (lines : List (List ℕ)) → answers_of setting (past_after setting past lines) t ≡ answers_of setting past t ++ own_replies setting t past lines)
        → (past : List Event) (lines others : List (List ℕ)) → AreClosed (past_after setting past lines) → map see (left_in lines) ≡ map see (left_in others) → (t : ℕ) → members t ≡ true
        → own_replies setting t past lines ≡ own_replies setting t past others
    same_replies replied past lines others closed same t is =
        let seen_same = same_events past lines others closed same in
        let answers = same_answers setting members itself forward (past_after setting past lines) (past_after setting past others) t seen_same (closed t is) in
        append_cancel_left (answers_of setting past t) (own_replies setting t past lines) (own_replies setting t past others)
        (sym (replied t past lines) ∙ (answers ∙ replied t past others))
