-- The events of a line: one instant, or none. If the line isn't a tenant's, none of them is a tenant's command.
use Rattle.std.proofs.Common.{◌≡◌, ◌⊎◌, ◌-◌, ◌^◌, ◌==◌, ◌||◌, ℕ, nat_lt, Bool, true, false, ℤ, List, [], ◌∷◌, ◌++◌, length, map, reverse, Option, Some, None, inl, inr, refl, sym, ap, ◌∙◌}
use Rattle.std.specs.List.{list_any}
use Rattle.std.proofs.lemmas.List.{reverse-append, reverse-reverse}
use Rattle.std.proofs.lemmas.List.Folds.{list_any-append}
use Rattle.giotto_tasks.specs.declared.names.Name.{Name}
use Rattle.rig_model.specs.config.Roster.{place_of}
use Rattle.rig_model.specs.Base.{Setting}
use Rattle.rig_model.specs.Legal.{next_tick}
use Rattle.rig_model.specs.OperatorLines.{OperatorForm, blank, tick, line_values, work, work_of, settle, archive, halt, bad_command, operator_line_of}
use Rattle.rig_model.specs.Script.{operator_step, tenant_step, tick_step, work_step_of, line_step, speaker_of, outstanding_at, outstanding_after}
use Rattle.rig_model.specs.declared.events.Event.{Event}
use Rattle.rig_model.specs.declared.events.Event.TheVariants.{Own, Tick, Done}
use Rattle.rig_model.specs.declared.jobs.JobId.{JobId}
use Rattle.rig_model.specs.declared.lines.commands.Command.{Command}
use Rattle.rig_model.specs.declared.speakers.Speaker.{Speaker}
use Rattle.rig_model.specs.declared.speakers.Speaker.TheVariants.{Nobody, Operator, Tenant, Unknown}
use Rattle.rig_model.specs.lines.CommandLine.{command_of_line}
use Rattle.rig_model.specs.lines.Words.{words_of, first_word_of, behind_first_word}
use Rattle.rig_script.specs.Courses.{is_command, is_tenants}
use Rattle.rig_script.specs.Instants.{is_instant}

-- whether an event is an instant
abbrev pub is_tick : Event → Bool
is_tick (Own t c) = false
is_tick (Tick frame) = true
is_tick (Done job) = false

-- events that are no tenant's command: one instant, or completions
abbrev Common : List Event → Type 0
Common events = ((frame : List ℤ) × (events ≡ Tick frame ∷ [])) ⊎ ((jobs : List JobId) × (events ≡ reverse (map Done jobs)))

-- the events of a line: those, or a command if the line is a tenant's
abbrev Spelt : Bool → List Event → Type 0
Spelt own events = Common events ⊎ ((own ≡ true) × (t : ℕ) × (c : Command) × (events ≡ Own t c ∷ []))

none : Common []
none = inr ([], refl)

module _ (setting : Setting) (past : List Event) where
  by_tick : (frame : List ℤ) → Common (tick_step setting past frame).events
  by_tick frame = by (length frame == setting.config.lines) refl (nat_lt (next_tick setting past) (2 ^ 64 - 1)) refl
    where
      by : (a : Bool) → (length frame == setting.config.lines) ≡ a → (b : Bool) → nat_lt (next_tick setting past) (2 ^ 64 - 1) ≡ b → Common (tick_step setting past frame).events
      by false e b f = rw e none
      by true e false f = rw (e, f) none
      by true e true f = rw (e, f) (inl (frame, refl))

  by_work : (x : Name) → Common (work_step_of setting past x).events
  by_work x = by (place_of setting.config x) refl
    where
      by : (place : Option ℕ) → place_of setting.config x ≡ place → Common (work_step_of setting past x).events
      by None e = rw e none
      by (Some t) e = rw e (inr (outstanding_at setting past t, refl))

  by_operator : (words : List (List ℕ)) → Common (operator_step setting past words).events
  by_operator words = by (operator_line_of words) refl
    where
      by : (line : OperatorForm) → operator_line_of words ≡ line → Common (operator_step setting past words).events
      by blank e = rw e none
      by (tick frame) e = rw e (by_tick frame)
      by line_values e = rw e none
      by work e = rw e (inr (outstanding_after setting past, refl))
      by (work_of x) e = rw e (by_work x)
      by settle e = rw e none
      by archive e = rw e none
      by halt e = rw e none
      by bad_command e = rw e none

  by_tenant : (t : ℕ) (who : Name) (line : List ℕ) → Spelt true (tenant_step setting past t who line).events
  by_tenant t who line = by (command_of_line line) refl
    where
      by : (o : Option Command) → command_of_line line ≡ o → Spelt true (tenant_step setting past t who line).events
      by None e = rw e (inl none)
      by (Some c) e = rw e (inr (refl, t, c, refl))

  by_line : (line : List ℕ) → Spelt (is_tenants (speaker_of setting.config line)) (line_step setting past line).events
  by_line line = by (speaker_of setting.config line) refl
    where
      by : (s : Speaker) → speaker_of setting.config line ≡ s → Spelt (is_tenants (speaker_of setting.config line)) (line_step setting past line).events
      by Nobody e = rw e (inl none)
      by Operator e = rw e (inl (by_operator (words_of (behind_first_word line))))
      by (Tenant t) e = rw e (by_tenant t (first_word_of line) (behind_first_word line))
      by Unknown e = rw e (inl none)

-- completions are no events of another kind
only_done : (kind : Event → Bool) → ((j : JobId) → kind (Done j) ≡ false) → (jobs : List JobId) → list_any kind (reverse (map Done jobs)) ≡ false
only_done kind other [] = refl
only_done kind other (j ∷ js) =
    ap (list_any kind) (reverse-append (Done j ∷ []) (map Done js))
    ∙ (list_any-append kind (reverse (map Done js)) (Done j ∷ []) ∙ (ap (λ (b : Bool). list_any kind (reverse (map Done js)) || (b || false)) (other j) ∙ ap (λ (b : Bool). b || false) (only_done kind other js)))

module _ (setting : Setting) (past : List Event) (line : List ℕ) where
  abbrev events : List Event
  events = (line_step setting past line).events

  -- a line that isn't a tenant's adds no command
  pub no_command : is_tenants (speaker_of setting.config line) ≡ false → list_any is_command events ≡ false
  no_command other = by (by_line setting past line)
    where
      by : Spelt (is_tenants (speaker_of setting.config line)) events → list_any is_command events ≡ false
      by (inl (inl one)) = ap (list_any is_command) one.1
      by (inl (inr jobs)) = ap (list_any is_command) jobs.1 ∙ only_done is_command (λ j. refl) jobs.0
      by (inr own) = let wrong = sym other ∙ own.0 in absurd (cc)

  -- a line whose first event is an instant has no other event
  pub one_instant : is_instant (reverse events) ≡ true → (frame : List ℤ) × (events ≡ Tick frame ∷ [])
  one_instant is = by (by_line setting past line)
    where
      none_of : (jobs : List JobId) → is_instant (map Done jobs) ≡ false
      none_of [] = refl
      none_of (j ∷ js) = refl

      by : Spelt (is_tenants (speaker_of setting.config line)) events → (frame : List ℤ) × (events ≡ Tick frame ∷ [])
      by (inl (inl one)) = one
      by (inl (inr jobs)) =
          let same : is_instant (reverse events) ≡ false = ap (λ (es : List Event). is_instant (reverse es)) jobs.1 ∙ (ap is_instant (reverse-reverse (map Done jobs.0)) ∙ none_of jobs.0) in
          let wrong = sym is ∙ same in absurd (cc)
      by (inr own) =
          let same : is_instant (reverse events) ≡ false = ap (λ (es : List Event). is_instant (reverse es)) own.3 in
          let wrong = sym is ∙ same in absurd (cc)

  -- any other line has none
  pub no_instant : is_instant (reverse events) ≡ false → list_any is_tick events ≡ false
  no_instant other = by (by_line setting past line)
    where
      by : Spelt (is_tenants (speaker_of setting.config line)) events → list_any is_tick events ≡ false
      by (inl (inl one)) =
          let same : is_instant (reverse events) ≡ true = ap (λ (es : List Event). is_instant (reverse es)) one.1 in
          let wrong = sym other ∙ same in absurd (cc)
      by (inl (inr jobs)) = ap (list_any is_tick) jobs.1 ∙ only_done is_tick (λ j. refl) jobs.0
      by (inr own) = ap (list_any is_tick) own.3

-- events without an instant leave the number of the next one
pub same_tick : (setting : Setting) (past : List Event) (events : List Event) → list_any is_tick events ≡ false → next_tick setting (events ++ past) ≡ next_tick setting past
same_tick setting past [] none = refl
same_tick setting past (Own t c ∷ events) none = same_tick setting past events none
same_tick setting past (Tick frame ∷ events) none = absurd (cc)
same_tick setting past (Done job ∷ events) none = same_tick setting past events none
