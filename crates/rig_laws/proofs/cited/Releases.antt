-- The jobs that were released in a history, and the rows of places outside the roster.
use Rattle.std.proofs.Common.{◌≡◌, ℕ, ◌<◌, ◌≤◌, ◌⊎◌, inl, inr, true, false, cond, ◌||◌, eqb, ℤ, List, [], ◌∷◌, length, sym, ap, ◌∙◌, arith}
use Rattle.std.specs.List.{AllByRecursion}
use Rattle.std.proofs.lemmas.Bool.{and_parts}
use Rattle.std.proofs.lemmas.Bool.Decides.{nat_tests}
use Rattle.rig_model.specs.declared.events.Event.{Event}
use Rattle.rig_model.specs.declared.events.Event.TheVariants.{Own, Tick, Done}
use Rattle.rig_model.specs.declared.lines.commands.Command.{Command}
use Rattle.rig_model.specs.declared.jobs.JobId.{JobId}
use Rattle.std.proofs.Math.ListN.{get_or-eq_default}
use Rattle.rig_model.specs.Base.{IsBase, Setting}
use Rattle.rig_model.specs.Legal.{next_tick, was_released, may_follow, is_legal}
use Rattle.rig_model.specs.Tenancies.{tenancy_at}
use Rattle.rig_model.specs.Views.{run_of, view_of, row_of}
use Rattle.rig_model.specs.config.Roster.{budgets_at, is_tenant}
use Rattle.rig_model.specs.Readings.{readings_within}
use Rattle.rig_model.specs.FirstHalf.{first_half_of}
use Rattle.rig_model.specs.Jobs.{same_job, job_of, is_active}
use Rattle.rig_model.specs.Row.{ActiveTask, Row, empty_row}
use Rattle.rig_model.specs.SecondHalf.{second_half_of}
use Rattle.rig_laws.proofs.cited.ActiveTasks.{kept_by_command}
use Rattle.rig_laws.proofs.cited.ActiveTasks.{kept_by_instant}
use Rattle.rig_laws.proofs.Histories.{unfinished_of, own_instant, own_row}
use Rattle.rig_laws.proofs.Histories.{releases}
use Rattle.rig_model.proofs.cited.JobNames.{same_job_is}
use Rattle.giotto_tasks.proofs.cited.TestLemmas.{absorbed}
use Rattle.giotto_tasks.proofs.cited.ListLemmas.{all_if_any, any_if_all}

module _ (setting : Setting) (base : IsBase setting.config setting.base) where
  pub within : (u : ℕ) → is_tenant setting.config u ≡ true → u < length setting.config.tenants
  within u e = grind (arith, nat_tests)

  pub is_within : (u : ℕ) → u < length setting.config.tenants → is_tenant setting.config u ≡ true
  is_within u lt = grind (arith, nat_tests)

  -- no event reaches a place that isn't in the roster
  pub row_outside : (past : List Event) (t : ℕ) → is_legal setting past ≡ true → length setting.config.tenants ≤ t → row_of setting past t ≡ empty_row (next_tick setting past)
  row_outside [] t legal le = get_or-eq_default setting.base.rows (empty_row setting.base.clock) (omega (arith, base.as_many))
  row_outside (Own u c ∷ past) t legal le =
      let parts = and_parts (is_tenant setting.config u) (is_legal setting past) legal in
      let lt = within u parts.0 in
      let other : eqb u t ≡ false = grind (arith, nat_tests) in
      ap (λ b. run_of setting t (cond b (Rattle.rig_model.specs.Views.command c ∷ view_of setting past t) (view_of setting past t))) other ∙ row_outside past t parts.1 le
  row_outside (Done i ∷ past) t legal le = row_outside past t (and_parts (may_follow setting past (Done i)) (is_legal setting past) legal).1 le
  row_outside (Tick frame ∷ past) t legal le =
      ap (λ r. second_half_of (readings_within (budgets_at setting.config t).reads frame) (own_instant setting past frame t).granted (first_half_of (unfinished_of setting past t r) r))
      (row_outside past t (and_parts (may_follow setting past (Tick frame)) (is_legal setting past) legal).1 le)

  pub released_if_active : (past : List Event) (j : JobId) → is_active (row_of setting past j.tenant) j ≡ true → was_released setting past j ≡ true
  released_if_active [] j e = e
  released_if_active (e ∷ past) j is = ap (λ b. b || was_released setting past j) is

  -- commands and completions release nothing
  active_before : (past : List Event) (u : ℕ) (c : Command) (j : JobId) → is_active (row_of setting (Own u c ∷ past) j.tenant) j ≡ true → was_released setting past j ≡ true
  active_before past u c j =
      any_if_all (λ (a : ActiveTask). same_job (job_of j.tenant a) j) (was_released setting past j ≡ true) (row_of setting (Own u c ∷ past) j.tenant).active
      (own_row setting (λ (row : Row). AllByRecursion WasReleased row.active) past c j.tenant (eqb u j.tenant)
      (kept_by_command WasReleased (next_tick setting past) (tenancy_at setting.config j.tenant) c (row_of setting past j.tenant)
      (record { each = before; at = (releases setting base past j.tenant).at })).each
      before)
    where
      WasReleased : ActiveTask → Type 0
      WasReleased a = same_job (job_of j.tenant a) j ≡ true → was_released setting past j ≡ true

      before : AllByRecursion WasReleased (row_of setting past j.tenant).active
      before = all_if_any (λ (a : ActiveTask). same_job (job_of j.tenant a) j) (was_released setting past j ≡ true) (row_of setting past j.tenant).active (released_if_active past j)

  pub released_own : (past : List Event) (u : ℕ) (c : Command) (j : JobId) → was_released setting (Own u c ∷ past) j ≡ was_released setting past j
  released_own past u c j = absorbed (is_active (row_of setting (Own u c ∷ past) j.tenant) j) (was_released setting past j) (active_before past u c j)

  pub released_done : (past : List Event) (i j : JobId) → was_released setting (Done i ∷ past) j ≡ was_released setting past j
  released_done past i j = absorbed (is_active (row_of setting (Done i ∷ past) j.tenant) j) (was_released setting past j) (released_if_active past j)

  -- an instant releases jobs under its own number
  pub active_behind : (past : List Event) (frame : List ℤ) (j : JobId) → is_active (row_of setting (Tick frame ∷ past) j.tenant) j ≡ true
      → (j.tick ≡ next_tick setting past) ⊎ (was_released setting past j ≡ true)
  active_behind past frame j =
      any_if_all (λ (a : ActiveTask). same_job (job_of j.tenant a) j) Either (row_of setting (Tick frame ∷ past) j.tenant).active
      (kept_by_instant IsEither (next_tick setting past) (λ a e same. inl (sym (ap (λ (k : JobId). k.tick) (same_job_is (job_of j.tenant a) j same)) ∙ e))
      (own_instant setting past frame j.tenant) (row_of setting past j.tenant) (record { each = before; at = (releases setting base past j.tenant).at })).0
    where
      Either : Type 0
      Either = (j.tick ≡ next_tick setting past) ⊎ (was_released setting past j ≡ true)

      IsEither : ActiveTask → Type 0
      IsEither a = same_job (job_of j.tenant a) j ≡ true → Either

      before : AllByRecursion IsEither (row_of setting past j.tenant).active
      before = all_if_any (λ (a : ActiveTask). same_job (job_of j.tenant a) j) Either (row_of setting past j.tenant).active (λ e. inr (released_if_active past j e))
