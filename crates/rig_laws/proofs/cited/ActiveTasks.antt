-- Each step keeps a property of each active task, if the tasks that are released at the instant's number have it.
use Rattle.std.proofs.Common.{◌≡◌, ℕ, ◌+◌, Bool, true, false, cond, List, [], ◌∷◌, Option, Some, None, length}
use Rattle.std.specs.Prelude.{Result, Ok, Err, option_to_list}
use Rattle.std.specs.Option.{option_map}
use Rattle.std.specs.List.{AllByRecursion}
use Rattle.giotto_tasks.specs.declared.names.Name.{Name}
use Rattle.giotto_tasks.specs.Names.{Valuation}
use Rattle.rig_model.specs.text.Program.{TaskDeclaration, TaskInvocation, ModeDeclaration, GiottoProgram}
use Rattle.rig_model.specs.declared.config.Budgets.{Budgets}
use Rattle.rig_model.specs.declared.lines.commands.Command.{Command}
use Rattle.rig_model.specs.declared.lines.commands.Command.TheVariants as command
use Rattle.rig_model.specs.declared.lines.commands.Command.TheVariants.{Load, Start, Stop, ShowMode, ShowPort, ShowAll, Grants}
use Rattle.rig_model.specs.declared.lines.ports.PortName.{PortName}
use Rattle.rig_model.specs.declared.lines.replies.Budget.{Budget}
use Rattle.rig_model.specs.rules.Declarations.{task_named, mode_named}
use Rattle.rig_model.specs.declared.lines.replies.Refusal.{Refusal}
use Rattle.rig_model.specs.declared.lines.replies.Refusal.TheVariants.{NotRunning}
use Rattle.rig_model.specs.declared.lines.replies.Reply.TheVariants.{Stopped}
use Rattle.rig_model.specs.Tenancies.{Tenancy}
use Rattle.rig_model.specs.Row.{ActiveTask, Row, StopReason, asked, overrun, is_running, where_some, in_program, in_mode}
use Rattle.rig_model.specs.Commands.{CommandOutcome, refused, load_within, replace_read, replace_within, load_read, start_program, stop_program, show_value, show_port, show_all, commanded}
use Rattle.rig_model.specs.FirstHalf.{stopped_with, completed_in_mode, first_half_with, first_half_of}
use Rattle.rig_model.specs.SecondHalf.{installed, replaced_if_due, sensed, entered, switched, is_invoked, released, invoked, all_released, invoked_in_mode, second_half_running, second_half_of}
use Rattle.rig_model.specs.Admission.{broken_budget, program_of}
use Rattle.rig_model.specs.Readings.{Readings}
use Rattle.rig_model.specs.Switches.{switch_taken}
use Rattle.rig_model.specs.Instants.{LocalInstant, after_instant}
use Rattle.giotto_tasks.proofs.cited.ListLemmas.{all_filter, all_append}

module _ (P : ActiveTask → Type 0) (n : ℕ) where
  -- each active task has the property, and the row is at this number
  pub record Keeps (row : Row) : Type 0 where
    pub each : AllByRecursion P row.active
    pub at : row.next_tick ≡ n

  pub keeps_where_some : {A : Type 0} (step : A → Row → Row) (o : Option A) (row : Row) → ((x : A) (r : Row) → Keeps r → Keeps (step x r)) → Keeps row → Keeps (where_some step o row)
  keeps_where_some step None row each k = k
  keeps_where_some step (Some x) row each k = each x row k

  keeps_in_program : (step : GiottoProgram → Row → Row) (row : Row) → ((p : GiottoProgram) (r : Row) → Keeps r → Keeps (step p r)) → Keeps row → Keeps (in_program step row)
  keeps_in_program step row each k = keeps_where_some step row.program row each k

  keeps_in_mode : (step : GiottoProgram → ModeDeclaration → Row → Row) (row : Row) → ((p : GiottoProgram) (m : ModeDeclaration) (r : Row) → Keeps r → Keeps (step p m r)) → Keeps row → Keeps (in_mode step row)
  keeps_in_mode step row each k = keeps_in_program (λ p. where_some (step p) (mode_named p row.mode)) row (λ p r. keeps_where_some (step p) (mode_named p row.mode) r (each p)) k

  keeps_if : (b : Bool) (x y : Row) → Keeps x → Keeps y → Keeps (cond b x y)
  keeps_if true x y kx ky = kx
  keeps_if false x y kx ky = ky

  keeps_stopped : (reason : StopReason) (row : Row) → Keeps row → Keeps (stopped_with reason row)
  keeps_stopped reason row k = stop row.program
    where
      stop : (o : Option GiottoProgram) → Keeps (stopped_with reason (record row { program = o }))
      stop None = record { each = tt; at = k.at }
      stop (Some p) = record { each = tt; at = k.at }

  keeps_completed : (p : GiottoProgram) (m : ModeDeclaration) (row : Row) → Keeps row → Keeps (completed_in_mode p m row)
  keeps_completed p m row k = record { each = all_filter P _ row.active k.each; at = k.at }

  pub keeps_first_half : (unfinished : List Name) (row : Row) → Keeps row → Keeps (first_half_of unfinished row)
  keeps_first_half unfinished row k = by _
    where
      by : (xs : List Name) → Keeps (first_half_with xs row)
      by (x ∷ xs) = keeps_stopped (overrun x) row k
      by [] = keeps_if (is_running row) (in_mode completed_in_mode row) row (keeps_in_mode completed_in_mode row keeps_completed k) k

  keeps_installed : (new : GiottoProgram) (row : Row) → Keeps row → Keeps (installed new row)
  keeps_installed new row k = keeps_in_program _ row (λ old r kr. record { each = tt; at = kr.at }) k

  keeps_replaced : (row : Row) → Keeps row → Keeps (replaced_if_due row)
  keeps_replaced row k = keeps_if _ (where_some installed row.waiting row) row (keeps_where_some installed row.waiting row keeps_installed k) k

  keeps_switched : (readings : Readings) (granted : Valuation) (p : GiottoProgram) (m : ModeDeclaration) (row : Row) → Keeps row → Keeps (switched p m (sensed readings granted p row))
  keeps_switched readings granted p m row k =
      let sensed_row = sensed readings granted p row in
      keeps_where_some _ (switch_taken m sensed_row.mode_time sensed_row.ports) _ (λ s r kr. keeps_where_some (entered m s) (mode_named p s.target) r (λ target q kq. record { each = kq.each; at = kq.at }) kr)
      (record { each = k.each; at = k.at })

  module _ (fresh : (a : ActiveTask) → a.release ≡ n → P a) where
    fresh_if : (b : Bool) (i : TaskInvocation) (ports : Valuation) (c : ℕ) → c ≡ n → (o : Option TaskDeclaration) → AllByRecursion P (cond b (option_to_list (option_map (released c i ports) o)) [])
    fresh_if false i ports c at o = tt
    fresh_if true i ports c at None = tt
    fresh_if true i ports c at (Some t) = (fresh _ at, tt)

    pub all_fresh : (p : GiottoProgram) (m : ModeDeclaration) (time c : ℕ) → c ≡ n → (is : List TaskInvocation) (ports : Valuation) → AllByRecursion P (all_released p m time c is ports)
    all_fresh p m time c at [] ports = tt
    all_fresh p m time c at (i ∷ is) ports =
        all_append P (cond (is_invoked m time i ports) (option_to_list (option_map (released c i ports) (task_named p i.task))) []) (all_released p m time c is (invoked p m time i ports))
        (fresh_if (is_invoked m time i ports) i ports c at (task_named p i.task)) (all_fresh p m time c at is (invoked p m time i ports))

    keeps_invoked : (p : GiottoProgram) (m : ModeDeclaration) (row : Row) → Keeps row → Keeps (invoked_in_mode p m row)
    keeps_invoked p m row k = record { each = all_append P row.active _ k.each (all_fresh p m row.mode_time row.next_tick k.at m.invocations row.ports); at = k.at }

    keeps_running : (readings : Readings) (granted : Valuation) (row : Row) → Keeps row → Keeps (second_half_running readings granted row)
    keeps_running readings granted row k =
        keeps_in_mode _ _ (λ p m r kr. let all = keeps_invoked p m r kr in record { each = all.each; at = all.at })
        (keeps_in_mode _ _ (λ p m r kr. keeps_switched readings granted p m r kr) (keeps_replaced row k))

    -- what holds of the tasks before the second half, and of released tasks, holds after it
    pub kept_by_second_half : (readings : Readings) (granted : Valuation) (row : Row) → Keeps row → AllByRecursion P (second_half_of readings granted row).active
    kept_by_second_half readings granted row k = (keeps_if (is_running row) _ row (keeps_running readings granted row k) k).each

    -- the same for an instant, which also moves the next tick on
    pub kept_by_instant : (i : LocalInstant) (row : Row) → Keeps row → AllByRecursion P (after_instant i row).active × ((after_instant i row).next_tick ≡ n + 1)
    kept_by_instant i row k =
        let half = keeps_first_half i.unfinished row k in
        let moved = keeps_if _ _ _ (keeps_running i.readings i.granted (first_half_of i.unfinished row) half) half in
        (moved.each, λ j. moved.at j + 1)

  -- a command keeps the active tasks, or leaves none
  keeps_within : (p : GiottoProgram) (row : Row) (o : Option Budget) → Keeps row → Keeps (load_within p row o).row
  keeps_within p row None k = record { each = tt; at = k.at }
  keeps_within p row (Some b) k = k

  keeps_outcome_if : (b : Bool) (x y : CommandOutcome) → Keeps x.row → Keeps y.row → Keeps (cond b x y).row
  keeps_outcome_if true x y kx ky = kx
  keeps_outcome_if false x y kx ky = ky

  keeps_read : (budgets : Budgets) (bytes : ℕ) (row : Row) (r : Result GiottoProgram Refusal) → Keeps row → Keeps (load_read budgets bytes row r).row
  keeps_read budgets bytes row (Err refusal) k = k
  keeps_read budgets bytes row (Ok p) k = keeps_outcome_if _ _ (load_within p row (broken_budget budgets bytes p)) k (keeps_within p row _ k)

  keeps_replace_within : (p : GiottoProgram) (row : Row) (o : Option Budget) → Keeps row → Keeps (replace_within p row o).row
  keeps_replace_within p row None k = record { each = k.each; at = k.at }
  keeps_replace_within p row (Some b) k = k

  keeps_replace_read : (budgets : Budgets) (bytes : ℕ) (row : Row) (r : Result GiottoProgram Refusal) → Keeps row → Keeps (replace_read budgets bytes row r).row
  keeps_replace_read budgets bytes row (Err refusal) k = k
  keeps_replace_read budgets bytes row (Ok p) k = keeps_outcome_if (is_running row) (replace_within p row (broken_budget budgets bytes p)) (refused row NotRunning) (keeps_replace_within p row _ k) k

  keeps_started : (row : Row) (o : Option GiottoProgram) → Keeps row → Keeps (start_program row o).row
  keeps_started row None k = k
  keeps_started row (Some p) k = record { each = tt; at = k.at }

  keeps_asked : (row : Row) → Keeps row → Keeps (stop_program row).row
  keeps_asked row k = keeps_outcome_if (is_running row) (record { row = stopped_with asked row; reply = Stopped }) (refused row NotRunning) (keeps_stopped asked row k) k

  keeps_shown : (x : PortName) (row : Row) (o : Option _) → Keeps row → Keeps (show_value x row o).row
  keeps_shown x row None k = k
  keeps_shown x row (Some z) k = k

  keeps_show : (x : PortName) (row : Row) (o : Option GiottoProgram) → Keeps row → Keeps (show_port x row o).row
  keeps_show x row None k = k
  keeps_show x row (Some p) k = keeps_shown x row _ k

  keeps_all_shown : (row : Row) (o : Option GiottoProgram) → Keeps row → Keeps (show_all row o).row
  keeps_all_shown row None k = k
  keeps_all_shown row (Some p) k = k

  pub kept_by_command : (tenancy : Tenancy) (c : Command) (row : Row) → Keeps row → Keeps (commanded tenancy c row).row
  kept_by_command tenancy (Load text) row k = keeps_read tenancy.budgets (length text) row (program_of text) k
  kept_by_command tenancy (command.Replace text) row k = keeps_replace_read tenancy.budgets (length text) row (program_of text) k
  kept_by_command tenancy Start row k = keeps_outcome_if _ _ (start_program row row.program) k (keeps_started row row.program k)
  kept_by_command tenancy Stop row k = keeps_asked row k
  kept_by_command tenancy ShowMode row k = k
  kept_by_command tenancy (ShowPort x) row k = keeps_show x row row.program k
  kept_by_command tenancy ShowAll row k = keeps_all_shown row row.program k
  kept_by_command tenancy command.Trace row k = k
  kept_by_command tenancy (Grants c) row k = record { each = k.each; at = k.at }
