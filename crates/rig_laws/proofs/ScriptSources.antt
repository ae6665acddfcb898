-- Scripts that differ only in lines of tenants that are no sources: the same part is kept for a tenant, whatever jobs either completes.
use Rattle.std.proofs.Common.{◌≡◌, ℕ, ◌+◌, ◌-◌, ◌^◌, ◌==◌, nat_lt, ◌⊎◌, ⊎_elim, inl, inr, Bool, true, false, cond, not, ℤ, List, [], ◌∷◌, ◌++◌, length, map, filter, reverse, Option, Some, None, refl, sym, ap, ◌∙◌, subst}
use Rattle.std.specs.List.{enumerate_from, flat_map, AllByRecursion}
use Rattle.std.specs.Option.{option_map_or}
use Rattle.std.proofs.lemmas.List.{append_cancel_left}
use Rattle.giotto_tasks.specs.declared.names.Name.{Name}
use Rattle.giotto_tasks.proofs.cited.ListLemmas.{all_filtered, all_mapped, all_of, filter-flat_map, same_filter}
use Rattle.rig_model.specs.config.Roster.{place_of}
use Rattle.rig_model.specs.declared.config.TenantConfig.{TenantConfig}
use Rattle.rig_model.specs.declared.lines.commands.Command.{Command}
use Rattle.rig_model.specs.lines.CommandLine.{command_of_line}
use Rattle.rig_model.specs.lines.Words.{words_of, first_word_of, behind_first_word}
use Rattle.rig_model.specs.declared.events.Event.{Event}
use Rattle.rig_model.specs.declared.events.Event.TheVariants.{Own, Tick, Done}
use Rattle.rig_model.specs.declared.jobs.JobId.{JobId}
use Rattle.rig_model.specs.declared.speakers.Speaker.{Speaker}
use Rattle.rig_model.specs.declared.speakers.Speaker.TheVariants.{Nobody, Operator, Tenant, Unknown}
use Rattle.rig_model.specs.Answers.{answers_of}
use Rattle.rig_model.specs.Base.{Setting}
use Rattle.rig_model.specs.Completions.{has_completion}
use Rattle.rig_model.specs.DifferingScripts.{is_one_of, is_line_of, without_lines_of, DifferInNoSource}
use Rattle.rig_model.specs.Jobs.{job_of}
use Rattle.rig_model.specs.Legal.{next_tick}
use Rattle.rig_model.specs.Row.{ActiveTask, Row}
use Rattle.rig_model.specs.OperatorLines.{OperatorForm, blank, tick, line_values, work, work_of, settle, archive, halt, bad_command, operator_line_of}
use Rattle.rig_model.specs.Script.{Step, lines_step, speaker_of, operator_step, tenant_step, tick_step, work_step, work_step_of, line_step, outstanding_at, outstanding_after, past_behind, past_after}
use Rattle.rig_model.specs.Sources.{is_source, sources_before, sources_from, sources_of, kept_from, kept_of}
use Rattle.rig_model.specs.TenantReplies.{own_replies}
use Rattle.rig_model.specs.TextLines.{text_of_line}
use Rattle.rig_model.specs.Views.{row_of}
use Rattle.rig_laws.proofs.cited.Places.{first_done}
use Rattle.rig_laws.proofs.cited.TwoWorlds.{kept_answers, kept_completions, kept_rows, source_of_end}
use Rattle.rig_laws.proofs.OtherTenants.{at_place, fewer_in, moved, refuted, same_froms, same_kepts}
use Rattle.rig_laws.proofs.OwnReplies.{answered_along}

-- the flattened lists are equal if the lists are equal for each element
flat_each : {X Y : Type 0} (f g : X → List Y) (xs : List X) → ((x : X) → f x ≡ g x) → flat_map f xs ≡ flat_map g xs
flat_each f g xs each = λ k. flat_map (λ x. each x k) xs

-- a filter that no element passes
none_pass : {X : Type 0} (test : X → Bool) (xs : List X) → AllByRecursion (λ x. test x ≡ false) xs → filter test xs ≡ []
none_pass test [] all = refl
none_pass test (x ∷ xs) all = ap (λ b. cond b (x ∷ filter test xs) (filter test xs)) all.0 ∙ none_pass test xs all.1

-- those of these jobs that are jobs of one of these tenants
abbrev jobs_of : List ℕ → List JobId → List JobId
jobs_of tenants js = filter (λ (j : JobId). is_source tenants j.tenant) js

module _ (setting : Setting) where
  -- completions add only themselves, and those of the sources are kept
  kept_done : (js : List JobId) (past : List Event) (sources : List ℕ)
      → kept_from setting sources (reverse (map Done js) ++ past) ≡ reverse (map Done (jobs_of sources js)) ++ kept_from setting sources past
  kept_done [] past sources = refl
  kept_done (j ∷ js) past sources = ap (kept_from setting sources) (first_done j js past) ∙ (kept_done js (Done j ∷ past) sources ∙ by (is_source sources j.tenant))
    where
      kept : List Event
      kept = kept_from setting sources past

      later : List JobId
      later = jobs_of sources js

      by : (b : Bool) → reverse (map Done later) ++ cond b (Done j ∷ kept) kept ≡ reverse (map Done (cond b (j ∷ later) later)) ++ kept
      by true = sym (first_done j later kept)
      by false = refl

  froms_done : (js : List JobId) (past : List Event) (sources : List ℕ) → sources_from setting sources (reverse (map Done js) ++ past) [] ≡ sources_from setting sources past []
  froms_done [] past sources = refl
  froms_done (j ∷ js) past sources = ap (λ (events : List Event). sources_from setting sources events []) (first_done j js past) ∙ froms_done js (Done j ∷ past) sources

  ticks_done : (js : List JobId) (past : List Event) → next_tick setting (reverse (map Done js) ++ past) ≡ next_tick setting past
  ticks_done [] past = refl
  ticks_done (j ∷ js) past = ap (next_tick setting) (first_done j js past) ∙ ticks_done js (Done j ∷ past)

  -- the outstanding jobs of a source are also outstanding after the kept part
  outstanding_kept : (past : List Event) (sources : List ℕ) (t : ℕ) → is_source sources t ≡ true → outstanding_at setting (kept_from setting sources past) t ≡ outstanding_at setting past t
  outstanding_kept past sources t e =
      ap (λ (row : Row). filter (is_open kept) (map (job_of t) row.active)) (kept_rows setting past sources t e)
      ∙ same_filter (is_open kept) (is_open past) (map (job_of t) active)
      (all_mapped (λ j. is_open kept j ≡ is_open past j) (job_of t) active
      (all_of {P = λ (a : ActiveTask). is_open kept (job_of t a) ≡ is_open past (job_of t a)} (λ a. ap not (kept_completions setting past sources (job_of t a) e)) active))
    where
      kept : List Event
      kept = kept_from setting sources past

      active : List ActiveTask
      active = (row_of setting past t).active

      is_open : List Event → JobId → Bool
      is_open events j = not (has_completion setting events j)

  -- the outstanding jobs of a tenant that is no source belong to no source
  outstanding_elsewhere : (past : List Event) (sources : List ℕ) (t : ℕ) → is_source sources t ≡ false → jobs_of sources (outstanding_at setting past t) ≡ []
  outstanding_elsewhere past sources t e =
      none_pass (λ (j : JobId). is_source sources j.tenant) (outstanding_at setting past t)
      (all_filtered (λ (j : JobId). is_source sources j.tenant ≡ false) (job_of t) (λ j. not (has_completion setting past j)) (row_of setting past t).active
      (all_of {P = λ (a : ActiveTask). is_source sources t ≡ false} (λ a. e) (row_of setting past t).active))

  -- if the same part is kept, the sources have the same outstanding jobs
  module _ (past others : List Event) (sources : List ℕ) (same : kept_from setting sources past ≡ kept_from setting sources others) where
    same_outstanding : (t : ℕ) → jobs_of sources (outstanding_at setting past t) ≡ jobs_of sources (outstanding_at setting others t)
    same_outstanding t = by (is_source sources t) refl
      where
        by : (b : Bool) → is_source sources t ≡ b → jobs_of sources (outstanding_at setting past t) ≡ jobs_of sources (outstanding_at setting others t)
        by true e =
            ap (jobs_of sources)
            (sym (outstanding_kept past sources t e) ∙ (ap (λ (events : List Event). outstanding_at setting events t) same ∙ outstanding_kept others sources t e))
        by false e = outstanding_elsewhere past sources t e ∙ sym (outstanding_elsewhere others sources t e)

    all_outstanding : jobs_of sources (outstanding_after setting past) ≡ jobs_of sources (outstanding_after setting others)
    all_outstanding =
        sym (filter-flat_map belongs (at_each past) places)
        ∙ (flat_each (λ place. jobs_of sources (at_each past place)) (λ place. jobs_of sources (at_each others place)) places (λ place. same_outstanding place.0)
        ∙ filter-flat_map belongs (at_each others) places)
      where
        places : List (ℕ × TenantConfig)
        places = enumerate_from 0 setting.config.tenants

        at_each : List Event → ℕ × TenantConfig → List JobId
        at_each events place = outstanding_at setting events place.0

        belongs : JobId → Bool
        belongs j = is_source sources j.tenant

  -- the sources are the same, and the kept part is the same
  abbrev IsSame : List Event → List Event → List ℕ → Type 0
  IsSame past others sources =
      (sources_from setting sources past [] ≡ sources_from setting sources others []) × (kept_from setting sources past ≡ kept_from setting sources others)

  module _ (tenants : ℕ → Bool) where
    -- none of these tenants is a source anywhere in the list
    abbrev AreNoSources : List Event → List ℕ → Type 0
    AreNoSources past sources = (u : ℕ) → tenants u ≡ true → is_source (sources_from setting sources past []) u ≡ false

    -- equally many instants, and `IsSame` for all sources that have none of these tenants among them anywhere in the first list
    record Alike (past others : List Event) : Type 0 where
      pub ticks : next_tick setting past ≡ next_tick setting others
      pub same : (sources : List ℕ) → AreNoSources past sources → IsSame past others sources

    alike_self : (past : List Event) → Alike past past
    alike_self past = record { ticks = refl; same = λ sources absent. (refl, refl) }

    alike_tick : (frame : List ℤ) (past others : List Event) → Alike past others → Alike (Tick frame ∷ past) (Tick frame ∷ others)
    alike_tick frame past others alike = record { ticks = ap (λ n. n + 1) alike.ticks; same = at_tick }
      where
        before : List ℕ → List ℕ
        before sources = sources_before setting (Tick frame) past sources

        at_tick : (sources : List ℕ) → AreNoSources (Tick frame ∷ past) sources → IsSame (Tick frame ∷ past) (Tick frame ∷ others) sources
        at_tick sources absent =
            let small = alike.same sources (λ u e. fewer_in setting u past (past ++ []) sources (absent u e)) in
            let large = alike.same (before sources)
            (λ u e. moved setting u past (sources_before setting (Tick frame) (past ++ []) sources) (before sources) (at_place setting frame past sources) (absent u e)) in
            (same_froms setting frame past others sources small.1 large.0, same_kepts setting frame past others sources small.1 large.1)

    alike_own : (u : ℕ) (c : Command) (past others : List Event) → Alike past others → Alike (Own u c ∷ past) (Own u c ∷ others)
    alike_own u c past others alike = record {
      ticks = alike.ticks;
      same = λ sources absent. let h = alike.same sources absent in (h.0, ap (λ (events : List Event). cond (is_source sources u) (Own u c ∷ events) events) h.1);
    }

    -- a command of one of these tenants is not kept
    not_kept : (u : ℕ) (c : Command) (past : List Event) (sources : List ℕ) (kept : List Event) → tenants u ≡ true → AreNoSources past sources → cond (is_source sources u) (Own u c ∷ kept) kept ≡ kept
    not_kept u c past sources kept e absent =
        ap (λ b. cond b (Own u c ∷ kept) kept)
        (refuted setting u sources (sources_from setting sources past []) (source_of_end setting past [] sources u) (absent u e))

    own_in_first : (u : ℕ) (c : Command) (past others : List Event) → tenants u ≡ true → Alike past others → Alike (Own u c ∷ past) others
    own_in_first u c past others e alike = record {
      ticks = alike.ticks;
      same = λ sources absent. let h = alike.same sources absent in (h.0, not_kept u c past sources (kept_from setting sources past) e absent ∙ h.1);
    }

    own_in_second : (u : ℕ) (c : Command) (past others : List Event) → tenants u ≡ true → Alike past others → Alike past (Own u c ∷ others)
    own_in_second u c past others e alike = record {
      ticks = alike.ticks;
      same = λ sources absent. let h = alike.same sources absent in (h.0, h.1 ∙ sym (not_kept u c past sources (kept_from setting sources others) e absent));
    }

    -- a line of one of these tenants adds nothing, or one of the tenant's commands
    abbrev IsSaid : List Event → List ℕ → Type 0
    IsSaid past line =
        ((line_step setting past line).events ≡ [])
        ⊎ ((u : ℕ) × (c : Command) × (tenants u ≡ true) × ((line_step setting past line).events ≡ Own u c ∷ []))

    said : (past : List Event) (line : List ℕ) → is_one_of tenants (speaker_of setting.config line) ≡ true → IsSaid past line
    said past line one = by (speaker_of setting.config line) refl one
      where
        of_command : (u : ℕ) → speaker_of setting.config line ≡ Tenant u → tenants u ≡ true → (found : Option Command) → command_of_line (behind_first_word line) ≡ found → IsSaid past line
        of_command u speaks e None f = inl (rw (speaks, f) refl)
        of_command u speaks e (Some c) f = inr (u, c, e, rw (speaks, f) refl)

        by : (s : Speaker) → speaker_of setting.config line ≡ s → is_one_of tenants s ≡ true → IsSaid past line
        by Nobody speaks e = absurd (cc)
        by Operator speaks e = absurd (cc)
        by (Tenant u) speaks e = of_command u speaks e (command_of_line (behind_first_word line)) refl
        by Unknown speaks e = absurd (cc)

    module _ (past others : List Event) (alike : Alike past others) where
      -- alike after what these steps add
      abbrev Behind : Step → Step → Type 0
      Behind step other = Alike (step.events ++ past) (other.events ++ others)

      by_steps : (s t u v : Step) → s ≡ t → u ≡ v → Behind t v → Behind s u
      by_steps s t u v here there behind = subst (λ (x : Step). Behind x u) (sym here) (subst (λ (x : Step). Behind t x) (sym there) behind)

      by_events : (s u : Step) (a b : List Event) → s.events ≡ a → u.events ≡ b → Alike (a ++ past) (b ++ others) → Behind s u
      by_events s u a b here there behind =
          subst (λ (x : List Event). Alike (x ++ past) (u.events ++ others)) (sym here) (subst (λ (x : List Event). Alike (a ++ past) (x ++ others)) (sym there) behind)

      quiet : (s u : Step) → s.events ≡ [] → u.events ≡ [] → Behind s u
      quiet s u here there = by_events s u [] [] here there alike

      alike_work : (js ks : List JobId) → ((sources : List ℕ) → kept_from setting sources past ≡ kept_from setting sources others → jobs_of sources js ≡ jobs_of sources ks)
          → Behind (work_step js) (work_step ks)
      alike_work js ks jobs = record {
        ticks = ticks_done js past ∙ (alike.ticks ∙ sym (ticks_done ks others));
        same = λ sources absent.
            let h = alike.same sources (λ u e. ap (λ (s : List ℕ). is_source s u) (sym (froms_done js past sources)) ∙ absent u e) in (
              froms_done js past sources ∙ (h.0 ∙ sym (froms_done ks others sources)),
              kept_done js past sources
                  ∙ (ap (λ (events : List Event). reverse (map Done (jobs_of sources js)) ++ events) h.1
                  ∙ (ap (λ (is : List JobId). reverse (map Done is) ++ kept_from setting sources others) (jobs sources h.1) ∙ sym (kept_done ks others sources))),
            );
      }

      alike_work_of : (x : Name) → Behind (work_step_of setting past x) (work_step_of setting others x)
      alike_work_of x = by (place_of setting.config x) refl
        where
          by : (place : Option ℕ) → place_of setting.config x ≡ place → Behind (work_step_of setting past x) (work_step_of setting others x)
          by None e = quiet (work_step_of setting past x) (work_step_of setting others x) (rw e refl) (rw e refl)
          by (Some t) e =
              let here : work_step_of setting past x ≡ work_step (outstanding_at setting past t) = rw e refl in
              let there : work_step_of setting others x ≡ work_step (outstanding_at setting others t) = rw e refl in
              by_steps (work_step_of setting past x) (work_step (outstanding_at setting past t)) (work_step_of setting others x) (work_step (outstanding_at setting others t)) here there
              (alike_work (outstanding_at setting past t) (outstanding_at setting others t) (λ sources same. same_outstanding past others sources same t))

      alike_frame : (frame : List ℤ) → Behind (tick_step setting past frame) (tick_step setting others frame)
      alike_frame frame = by (length frame == setting.config.lines) refl (nat_lt (next_tick setting past) (2 ^ 64 - 1)) refl
        where
          by : (a : Bool) → (length frame == setting.config.lines) ≡ a → (b : Bool) → nat_lt (next_tick setting past) (2 ^ 64 - 1) ≡ b
              → Behind (tick_step setting past frame) (tick_step setting others frame)
          by false e b f = quiet (tick_step setting past frame) (tick_step setting others frame) (rw e refl) (rw e refl)
          by true e false f =
              let g : nat_lt (next_tick setting others) (2 ^ 64 - 1) ≡ false = ap (λ n. nat_lt n (2 ^ 64 - 1)) (sym alike.ticks) ∙ f in
              quiet (tick_step setting past frame) (tick_step setting others frame) (rw (e, f) refl) (rw (e, g) refl)
          by true e true f =
              let g : nat_lt (next_tick setting others) (2 ^ 64 - 1) ≡ true = ap (λ n. nat_lt n (2 ^ 64 - 1)) (sym alike.ticks) ∙ f in
              by_events (tick_step setting past frame) (tick_step setting others frame) (Tick frame ∷ []) (Tick frame ∷ []) (rw (e, f) refl) (rw (e, g) refl)
              (alike_tick frame past others alike)

      alike_operator : (words : List (List ℕ)) → Behind (operator_step setting past words) (operator_step setting others words)
      alike_operator words = by (operator_line_of words) refl
        where
          first : Step
          first = operator_step setting past words

          second : Step
          second = operator_step setting others words

          by : (line : OperatorForm) → operator_line_of words ≡ line → Behind first second
          by blank e = quiet first second (rw e refl) (rw e refl)
          by settle e = quiet first second (rw e refl) (rw e refl)
          by archive e = quiet first second (rw e refl) (rw e refl)
          by halt e = quiet first second (rw e refl) (rw e refl)
          by bad_command e = quiet first second (rw e refl) (rw e refl)
          by (tick frame) e =
              let here : operator_step setting past words ≡ tick_step setting past frame = rw e refl in
              let there : operator_step setting others words ≡ tick_step setting others frame = rw e refl in
              by_steps first (tick_step setting past frame) second (tick_step setting others frame) here there (alike_frame frame)
          by work e =
              let here : operator_step setting past words ≡ work_step (outstanding_after setting past) = rw e refl in
              let there : operator_step setting others words ≡ work_step (outstanding_after setting others) = rw e refl in
              by_steps first (work_step (outstanding_after setting past)) second (work_step (outstanding_after setting others)) here there
              (alike_work (outstanding_after setting past) (outstanding_after setting others) (all_outstanding past others))
          by (work_of x) e =
              let here : operator_step setting past words ≡ work_step_of setting past x = rw e refl in
              let there : operator_step setting others words ≡ work_step_of setting others x = rw e refl in
              by_steps first (work_step_of setting past x) second (work_step_of setting others x) here there (alike_work_of x)
          by line_values e =
              let here : operator_step setting past words ≡ lines_step setting past = rw e refl in
              let there : operator_step setting others words ≡ lines_step setting others = rw e refl in
              by_steps first (lines_step setting past) second (lines_step setting others) here there alike

      alike_tenant : (t : ℕ) (who : Name) (line : List ℕ) → Behind (tenant_step setting past t who line) (tenant_step setting others t who line)
      alike_tenant t who line = by (command_of_line line) refl
        where
          by : (found : Option Command) → command_of_line line ≡ found → Behind (tenant_step setting past t who line) (tenant_step setting others t who line)
          by None e = quiet (tenant_step setting past t who line) (tenant_step setting others t who line) (rw e refl) (rw e refl)
          by (Some c) e =
              by_events (tenant_step setting past t who line) (tenant_step setting others t who line) (Own t c ∷ []) (Own t c ∷ []) (rw e refl) (rw e refl) (alike_own t c past others alike)

      -- after the same line
      alike_line : (line : List ℕ) → Alike (past_behind setting past line) (past_behind setting others line)
      alike_line line = by (speaker_of setting.config line) refl
        where
          first : Step
          first = line_step setting past line

          second : Step
          second = line_step setting others line

          words : List (List ℕ)
          words = words_of (behind_first_word line)

          own : List Event → ℕ → Step
          own events t = tenant_step setting events t (first_word_of line) (behind_first_word line)

          by : (s : Speaker) → speaker_of setting.config line ≡ s → Behind first second
          by Nobody e = quiet first second (rw e refl) (rw e refl)
          by Operator e =
              let here : line_step setting past line ≡ operator_step setting past words = rw e refl in
              let there : line_step setting others line ≡ operator_step setting others words = rw e refl in
              by_steps first (operator_step setting past words) second (operator_step setting others words) here there (alike_operator words)
          by (Tenant t) e =
              let here : line_step setting past line ≡ own past t = rw e refl in
              let there : line_step setting others line ≡ own others t = rw e refl in
              by_steps first (own past t) second (own others t) here there (alike_tenant t (first_word_of line) (behind_first_word line))
          by Unknown e = quiet first second (rw e refl) (rw e refl)

      -- after a line of one of these tenants, in one of the two
      line_in_first : (line : List ℕ) → is_one_of tenants (speaker_of setting.config line) ≡ true → Alike (past_behind setting past line) others
      line_in_first line one =
          ⊎_elim
          (λ e. subst (λ (x : List Event). Alike (x ++ past) others) (sym e) alike)
          (λ h. subst (λ (x : List Event). Alike (x ++ past) others) (sym h.3) (own_in_first h.0 h.1 past others h.2 alike))
          (said past line one)

      line_in_second : (line : List ℕ) → is_one_of tenants (speaker_of setting.config line) ≡ true → Alike past (past_behind setting others line)
      line_in_second line one =
          ⊎_elim
          (λ e. subst (λ (x : List Event). Alike past (x ++ others)) (sym e) alike)
          (λ h. subst (λ (x : List Event). Alike past (x ++ others)) (sym h.3) (own_in_second h.0 h.1 past others h.2 alike))
          (said others line one)

    abbrev left_in : List (List ℕ) → List (List ℕ)
    left_in lines = without_lines_of setting.config tenants lines

    -- A relation holds between a script and the script without the lines of these tenants, if it is kept by the same line in both, and by a
    -- line of these tenants in the first script alone.
    module _ (R : List Event → List Event → Type 0)
        (both : (line : List ℕ) (past others : List Event) → R past others → R (past_behind setting past line) (past_behind setting others line))
        (first : (line : List ℕ) (past others : List Event) → is_one_of tenants (speaker_of setting.config line) ≡ true → R past others → R (past_behind setting past line) others) where
      in_place : (a b c d : List Event) → a ≡ b → c ≡ d → R b d → R a c
      in_place a b c d here there r = subst (λ (x : List Event). R x c) (sym here) (subst (λ (x : List Event). R b x) (sym there) r)

      along : (lines : List (List ℕ)) (past others : List Event) → R past others → R (past_after setting past lines) (past_after setting others (left_in lines))
      along [] past others r = r
      along (line ∷ lines) past others r = by (text_of_line line) refl (along lines)
        where
          Further : Type 0
          Further = (earlier those : List Event) → R earlier those → R (past_after setting earlier lines) (past_after setting those (left_in lines))

          Goal : Type 0
          Goal = R (past_after setting past (line ∷ lines)) (past_after setting others (left_in (line ∷ lines)))

          spoken : Option (List ℕ) → Bool
          spoken found = option_map_or (λ text. is_one_of tenants (speaker_of setting.config text)) found false

          left : (b : Bool) → is_line_of setting.config tenants line ≡ b → left_in (line ∷ lines) ≡ cond (not b) (line ∷ left_in lines) (left_in lines)
          left b e = ap (λ b. cond (not b) (line ∷ left_in lines) (left_in lines)) e

          of_text : (text : List ℕ) → text_of_line line ≡ Some text → (one : Bool) → is_one_of tenants (speaker_of setting.config text) ≡ one → Further → Goal
          of_text text f true e further =
              let next = past_behind setting past text in
              let here : past_after setting past (line ∷ lines) ≡ past_after setting next lines = rw f refl in
              let there : left_in (line ∷ lines) ≡ left_in lines = left true (ap spoken f ∙ e) in
              in_place (past_after setting past (line ∷ lines)) (past_after setting next lines) (past_after setting others (left_in (line ∷ lines))) (past_after setting others (left_in lines))
              here (ap (past_after setting others) there) (further next others (first text past others e r))
          of_text text f false e further =
              let next = past_behind setting past text in
              let other = past_behind setting others text in
              let here : past_after setting past (line ∷ lines) ≡ past_after setting next lines = rw f refl in
              let stays : left_in (line ∷ lines) ≡ line ∷ left_in lines = left false (ap spoken f ∙ e) in
              let there : past_after setting others (line ∷ left_in lines) ≡ past_after setting other (left_in lines) = rw f refl in
              in_place (past_after setting past (line ∷ lines)) (past_after setting next lines) (past_after setting others (left_in (line ∷ lines))) (past_after setting other (left_in lines))
              here (ap (past_after setting others) stays ∙ there) (further next other (both text past others r))

          by : (found : Option (List ℕ)) → text_of_line line ≡ found → Further → Goal
          by None f further =
              let here : past_after setting past (line ∷ lines) ≡ past = rw f refl in
              let stays : left_in (line ∷ lines) ≡ line ∷ left_in lines = left false (ap spoken f) in
              let there : past_after setting others (line ∷ left_in lines) ≡ others = rw f refl in
              in_place (past_after setting past (line ∷ lines)) past (past_after setting others (left_in (line ∷ lines))) others here (ap (past_after setting others) stays ∙ there) r
          by (Some text) f further = of_text text f (is_one_of tenants (speaker_of setting.config text)) refl further

    without_lines : (past : List Event) (lines : List (List ℕ)) → Alike (past_after setting past lines) (past_after setting past (left_in lines))
    without_lines past lines = along Alike (λ line p q alike. alike_line p q alike line) (λ line p q one alike. line_in_first p q alike line one) lines past past (alike_self past)

    with_lines : (past : List Event) (lines : List (List ℕ)) → Alike (past_after setting past (left_in lines)) (past_after setting past lines)
    with_lines past lines =
        along (λ p q. Alike q p) (λ line p q alike. alike_line q p alike line) (λ line p q one alike. line_in_second q p alike line one) lines past past (alike_self past)

    same_in_scripts : (t : ℕ) (past : List Event) (lines others : List (List ℕ)) → DifferInNoSource setting tenants t past lines others
        → IsSame (past_after setting past lines) (past_after setting past others) (t ∷ [])
    same_in_scripts t past lines others differ =
        let first = (without_lines past lines).same (t ∷ []) differ.no_source in
        let between : Alike (past_after setting past (left_in lines)) (past_after setting past others) =
        subst (λ (ls : List (List ℕ)). Alike (past_after setting past ls) (past_after setting past others)) (sym differ.same_else) (with_lines past others) in
        let second = between.same (t ∷ []) (λ u e. ap (λ (s : List ℕ). is_source s u) (sym first.0) ∙ differ.no_source u e) in
        (first.0 ∙ second.0, first.1 ∙ second.1)

module _ (setting : Setting) (tenants : ℕ → Bool) (t : ℕ) (past : List Event) (lines others : List (List ℕ)) (differ : DifferInNoSource setting tenants t past lines others) where
  pub sources_in_scripts : sources_of setting t (past_after setting past lines) [] ≡ sources_of setting t (past_after setting past others) []
  sources_in_scripts = (same_in_scripts setting tenants t past lines others differ).0

  pub kept_in_scripts : kept_of setting (past_after setting past lines) t ≡ kept_of setting (past_after setting past others) t
  kept_in_scripts = (same_in_scripts setting tenants t past lines others differ).1

  pub answers_in_scripts : answers_of setting (past_after setting past lines) t ≡ answers_of setting (past_after setting past others) t
  answers_in_scripts =
      sym (kept_answers setting (past_after setting past lines) t)
      ∙ (ap (λ (kept : List Event). answers_of setting kept t) kept_in_scripts ∙ kept_answers setting (past_after setting past others) t)

  pub replies_in_scripts : own_replies setting t past lines ≡ own_replies setting t past others
  replies_in_scripts =
      append_cancel_left (answers_of setting past t) (own_replies setting t past lines) (own_replies setting t past others)
      (sym (answered_along setting t past lines) ∙ (answers_in_scripts ∙ answered_along setting t past others))
