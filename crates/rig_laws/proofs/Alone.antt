-- The whole host, tenant by tenant: each row is that of the one-tenant machine over the tenant's own view.
use Rattle.std.proofs.Common.{◌≡◌, ℕ, ◌<◌, ◌≢◌, ⊎_elim, true, false, cond, ◌&&◌, eqb, List, [], ◌∷◌, length, filter, get_or, set, sym, ap, ◌∙◌, length-set, arith}
use Rattle.std.specs.List.{AllByRecursion}
use Rattle.std.specs.Option.{option_map_or}
use Rattle.std.proofs.lemmas.Bool.{cases_eq}
use Rattle.std.proofs.lemmas.Bool.Decides.{nat_tests}
use Rattle.std.proofs.lemmas.List.{get_or-set_same, get_or-set_other}
use Rattle.std.proofs.lemmas.Map.Views.{any-filter_same}
use Rattle.giotto_tasks.specs.Names.{same_name}
use Rattle.rig_model.specs.text.Program.{TaskInvocation}
use Rattle.rig_model.specs.declared.events.Event.{Event}
use Rattle.rig_model.specs.declared.events.Event.TheVariants.{Own}
use Rattle.rig_model.specs.declared.jobs.JobId.{JobId}
use Rattle.rig_model.specs.declared.lines.commands.Command.{Command}
use Rattle.rig_model.specs.rules.Declarations.{mode_named}
use Rattle.rig_model.specs.Jobs.{same_job, job_of, is_active}
use Rattle.rig_model.specs.Row.{ActiveTask, Row, empty_row, is_running}
use Rattle.rig_model.specs.FirstHalf.{due_in_mode, due_in_program, due_tasks}
use Rattle.rig_model.specs.Due.{is_due_at}
use Rattle.rig_model.specs.Base.{IsBase, Setting}
use Rattle.rig_model.specs.Completions.{has_completion}
use Rattle.rig_model.specs.Host.{with_rows, after_event}
use Rattle.rig_model.specs.HostState.{HostState, is_counted, row_at}
use Rattle.rig_model.specs.Legal.{next_tick}
use Rattle.rig_model.specs.Tenancies.{tenancy_at}
use Rattle.rig_model.specs.Views.{after_command, run_of, view_of, row_of}
use Rattle.rig_laws.proofs.cited.ActiveTasks.{Keeps, kept_by_command}
use Rattle.rig_laws.proofs.Histories.{own_row}
use Rattle.rig_laws.proofs.Histories.{releases}
use Rattle.rig_model.proofs.cited.JobNames.{same_job_is, own_jobs_active}
use Rattle.giotto_tasks.proofs.cited.ListLemmas.{all_filter, all_flat, all_if, all_map, all_option, all_zip, any_of_filter}

-- due tasks are active tasks
pub all_due : (P : ActiveTask → Type 0) (row : Row) → AllByRecursion P row.active → AllByRecursion P (due_tasks row)
all_due P row all =
    all_if P (is_running row) (option_map_or (due_in_program row) row.program [])
    (all_option P (due_in_program row) row.program (λ p.
    all_option P (due_in_mode row) (mode_named p row.mode) (λ m.
    all_flat P (λ (i : TaskInvocation). filter (λ (a : ActiveTask). same_name a.task i.task && is_due_at row.mode_time m i.frequency) row.active) m.invocations (λ i. all_filter P _ row.active all))))

-- a job that is active after the event is counted exactly if it was counted before
pub counted_of_active : (host : HostState) (rows : List Row) (j : JobId) → is_active (get_or rows j.tenant (empty_row host.clock)) j ≡ true
    → is_counted (with_rows host rows) j ≡ is_counted host j
counted_of_active host rows j active =
    let rest : HostState = with_rows host rows in
    any-filter_same (λ i. same_job i j) (λ (i : JobId). is_active (get_or rows i.tenant (empty_row host.clock)) i) true
    (λ i e. ap (λ (k : JobId). is_active (get_or rows k.tenant (empty_row host.clock)) k) (same_job_is i j e) ∙ active) host.counted

module _ (setting : Setting) where
  -- an active task's job is counted exactly if it was completed
  abbrev IsMarked : HostState → List Event → ℕ → ActiveTask → Type 0
  IsMarked host past t a = is_counted host (job_of t a) ≡ has_completion setting past (job_of t a)

  -- the host agrees with the views
  pub record Agrees (host : HostState) (past : List Event) : Type 0 where
    pub long : length host.rows ≡ length setting.config.tenants
    pub rows : (t : ℕ) → t < length setting.config.tenants → row_at host t ≡ row_of setting past t
    pub marks : (t : ℕ) → t < length setting.config.tenants → AllByRecursion (λ a. is_counted host (job_of t a) ≡ has_completion setting past (job_of t a)) (row_of setting past t).active
    pub known : (j : JobId) → is_counted host j ≡ true → has_completion setting past j ≡ true

  -- marks are kept when the rows change
  pub marks_after : (host : HostState) (past : List Event) (t : ℕ) (rows : List Row) (row : Row) → get_or rows t (empty_row host.clock) ≡ row
      → AllByRecursion (IsMarked host past t) row.active → AllByRecursion (IsMarked (with_rows host rows) past t) row.active
  marks_after host past t rows row at marked =
      all_map (λ a. IsMarked host past t a × (is_active row (job_of t a) ≡ true)) (IsMarked (with_rows host rows) past t) row.active
      (λ a h. counted_of_active host rows (job_of t a) (ap (λ r. is_active r (job_of t a)) at ∙ h.1) ∙ h.0)
      (all_zip (IsMarked host past t) (λ a. is_active row (job_of t a) ≡ true) row.active marked (own_jobs_active t row))

  pub known_after : (host : HostState) (past : List Event) (rows : List Row) → ((j : JobId) → is_counted host j ≡ true → has_completion setting past j ≡ true)
      → (j : JobId) → is_counted (with_rows host rows) j ≡ true → has_completion setting past j ≡ true
  known_after host past rows known j e = known j (any_of_filter _ _ host.counted e)

  -- a command
  pub own_event : IsBase setting.config setting.base → (host : HostState) (past : List Event) (u : ℕ) (c : Command) → u < length setting.config.tenants → Agrees host past → Agrees (after_event setting host (Own u c)) (Own u c ∷ past)
  own_event base host past u c within agrees =
      record {
        long = length-set host.rows u _ ∙ agrees.long;
        rows = rows_after;
        marks = λ t lt. marks_after host past t rows (row_of setting (Own u c ∷ past) t) (rows_after t lt)
            (own_row setting (λ row. AllByRecursion (IsMarked host past t) row.active) past c t (eqb u t) (own_marks t lt).each (agrees.marks t lt));
        known = known_after host past rows agrees.known;
      }
    where
      new : Row
      new = (after_command setting u c (row_at host u)).row

      rows : List Row
      rows = set host.rows u new

      own_marks : (t : ℕ) → t < length setting.config.tenants → Keeps (IsMarked host past t) (next_tick setting past) (after_command setting t c (row_of setting past t)).row
      own_marks t lt = kept_by_command (IsMarked host past t) (next_tick setting past) (tenancy_at setting.config t) c (row_of setting past t)
          (record { each = agrees.marks t lt; at = (releases setting base past t).at })

      same_row : (t : ℕ) → u ≡ t → t < length setting.config.tenants → (after_command setting u c (row_at host u)).row ≡ (after_command setting t c (row_of setting past t)).row
      same_row t e lt = ap (λ k. (after_command setting k c (row_at host k)).row) e ∙ ap (λ r. (after_command setting t c r).row) (agrees.rows t lt)

      rows_after : (t : ℕ) → t < length setting.config.tenants → get_or rows t (empty_row host.clock) ≡ row_of setting (Own u c ∷ past) t
      rows_after t lt = ⊎_elim
          (λ (same : u ≡ t).
          let is : eqb u t ≡ true = grind (arith, nat_tests) in
          ap (λ k. get_or rows k (empty_row host.clock)) (sym same)
          ∙ (get_or-set_same host.rows u new (empty_row host.clock) (omega (arith, agrees.long))
          ∙ (same_row t same lt
          ∙ sym (ap (λ b. run_of setting t (cond b (Rattle.rig_model.specs.Views.command c ∷ view_of setting past t) (view_of setting past t))) is))))
          (λ (differ : u ≢ t).
          let is : eqb u t ≡ false = grind (arith, nat_tests) in
          get_or-set_other host.rows u t new (empty_row host.clock) (λ e. differ (sym e))
          ∙ (agrees.rows t lt
          ∙ sym (ap (λ b. run_of setting t (cond b (Rattle.rig_model.specs.Views.command c ∷ view_of setting past t) (view_of setting past t))) is)))
          (cases_eq u t)
