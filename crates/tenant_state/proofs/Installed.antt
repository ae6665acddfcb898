-- What holds before an installation.
use Rattle.std.proofs.Common.{ℕ, ◌+◌, ℤ, cond, List, [], ◌∷◌, length, take, drop, map, filter, ap, sym, subst, ◌∙◌, arith, inr, ◌≡◌, Bool, true, false, Option, Some, None, refl, is_some}
use Rattle.std.specs.Prelude.{◌&&◌}
use Rattle.std.specs.List.{AllByRecursion, flat_map}
use Rattle.std.specs.Option.{option_map_or}
use Rattle.giotto_tasks.specs.Names.{same_name}
use Rattle.rig_model.specs.rules.Declarations.{mode_named}
use Rattle.rig_model.specs.text.Program.{ModeDeclaration, TaskInvocation, GiottoProgram}
use Rattle.rig_model.specs.Granted.{granted_along}
use Rattle.rig_model.specs.Due.{is_due_at}
use Rattle.rig_model.specs.Readings.{readings_within}
use Rattle.rig_model.specs.SecondHalf.{replaced_if_due, second_half_of}
use Rattle.tenant_state.specs.cited.Halves.{IsSecondHalf}
use Rattle.tenant_state.specs.cited.Standing.{AreReleased, IsBehind}
use Rattle.tenant_state.proofs.Replaced.{installed_first}
use Rattle.giotto_tasks.specs.Syntax.{TaskBody}
use Rattle.tenant_slots.specs.well_formed.cited.Facts.{ProgramFits}
use Rattle.rig_model.specs.declared.config.Budgets.{Budgets}
use Rattle.rig_model.specs.grants.Grants.{GrantRows}
use Rattle.rig_model.specs.trace.Trace.{LastRecords}
use Rattle.tenant_state.specs.declared.tenants.Active.{Active}
use Rattle.tenant_state.specs.declared.tenants.waiting.Waiting.{Waiting}
use Rattle.rig_model.specs.FirstHalf.{due_in_mode, due_tasks}
use Rattle.rig_model.specs.Row.{ActiveTask, Row, is_running, is_running_state}
use Rattle.tenant_state.specs.Standing.{Standing, StandsFor, most_released, with_last}
use Rattle.tenant_state.specs.inner.Tenants.{IsTenant, IsTraceOf}
use Rattle.tenant_state.proofs.EndedTasks.{as_running}
use Rattle.tenant_state.proofs.Invoked.{no_task_left}
use Rattle.std.proofs.lemmas.Bool.{false≢true}
use Rattle.tenant_state.specs.declared.tenants.State as code
use Rattle.tenant_state.specs.declared.tenants.State.TheVariants as states
use Rattle.tenant_state.specs.Tenants.{active_of, standing_of, state_of}

pub some_there : {A : Type 0} (o : Option A) → is_some o ≡ true → (x : A) × (o ≡ Some x)
some_there None e = absurd (false≢true e)
some_there (Some x) e = (x, refl)

pub running_is : (state : code.State) → is_running_state (state_of state) ≡ true → state ≡ states.Running
running_is states.Running e = refl
running_is states.Empty e = absurd (false≢true e)
running_is states.Loaded e = absurd (false≢true e)
running_is (states.Stopped reason) e = absurd (false≢true e)

module _ (budgets : Budgets) (grants : GrantRows) (state : code.State) (program : Option GiottoProgram) (mode time next : ℕ) (active ended : List Active) (room : ℕ) (values : List ℤ) (shares : List (Option TaskBody)) (waiting : Option Waiting) (trace : LastRecords) (next_tick : ℕ)
    (tenant : Standing) (view : standing_of budgets grants state program mode time active ended room values shares waiting trace next_tick ≡ tenant) where
  -- if nothing is due at mode time 0, no task is active
  pub none_left : IsTenant (state_of state) program mode time next active ended values shares next_tick → is_running tenant.row ≡ true → (p : GiottoProgram) → program ≡ Some p → ProgramFits p → due_tasks tenant.row ≡ [] → tenant.row.mode_time ≡ 0
      → tenant.row.active ≡ []
  none_left known runs p has fits none begins =
      let run = as_running waiting trace view known (running_is state (ap (λ (t : Standing). is_running t.row) view ∙ runs)) has in
      ap (λ (r : Row). r.active) run.row ∙ ap (map (active_of p)) (no_task_left run fits none (ap (λ (r : Row). r.mode_time) (sym run.row) ∙ begins))

  -- a tenant represents its own row
  pub stands_for_itself : IsTraceOf budgets.trace trace → StandsFor tenant tenant.row
  stands_for_itself kept =
      let own : Standing = standing_of budgets grants state program mode time active ended room values shares waiting trace next_tick in
      subst (λ (t : Standing). StandsFor t t.row) view (λ k. record own.row { records = sym kept.few k })

-- if no task is active, none is due
pub nothing_due : (row : Row) → row.active ≡ [] → due_tasks row ≡ []
nothing_due row e = ap (λ active. due_tasks (record row { active = active })) e ∙ by (is_running row) row.program
  where
    none : (m : ModeDeclaration) (is : List TaskInvocation)
        → flat_map (λ (i : TaskInvocation). filter (λ (a : ActiveTask). same_name a.task i.task && is_due_at row.mode_time m i.frequency) []) is ≡ []
    none m [] = refl
    none m (i ∷ is) = none m is

    in_it : (o : Option ModeDeclaration) → option_map_or (due_in_mode (record row { active = [] })) o [] ≡ []
    in_it None = refl
    in_it (Some m) = none m m.invocations

    by : (b : Bool) (o : Option GiottoProgram) → cond b (option_map_or (λ p. option_map_or (due_in_mode (record row { active = [] })) (mode_named p row.mode) []) o []) [] ≡ []
    by false o = refl
    by true None = refl
    by true (Some p) = in_it (mode_named p row.mode)

-- a running tenant before an installation, after it, and after the second half that goes on from there
module _ (before middle after : Standing) (tenancy : middle.tenancy ≡ before.tenancy) (next : middle.row.next_tick ≡ before.row.next_tick) where
  pub half_behind : (frame : List ℤ) (granted : List (Option ℤ)) → is_running before.row ≡ true → IsBehind before replaced_if_due middle → before.row.active ≡ []
      → middle.row.offers ≡ before.row.offers → middle.row.binds ≡ before.row.binds → IsSecondHalf frame granted middle after → IsSecondHalf frame granted before after
  half_behind frame granted runs installs none offers binds half = record {
    step = λ row stands.
        half.step (replaced_if_due row) (installs row stands)
        ∙ ap (with_last after.tenancy.budgets.trace)
        ((λ k. second_half_of (readings_within (tenancy k).budgets.reads frame) (granted_along (binds k) granted) (replaced_if_due row))
        ∙ installed_first (readings_within before.tenancy.budgets.reads frame) (granted_along before.row.binds granted) row (ap is_running (sym stands) ∙ runs));
    next_tick = half.next_tick ∙ ap (λ n. n + 1) next;
    tenancy = half.tenancy ∙ tenancy;
    program = inr none;
    offers = half.offers ∙ offers;
    binds = half.binds ∙ binds;
    ended = half.ended;
  }

  pub released_then : middle.row.active ≡ before.row.active → most_released middle.row ≡ most_released before.row → AreReleased middle.row after.row → AreReleased before.row after.row
  released_then active most released = record {
    older = ap (λ (xs : List ActiveTask). take (length xs) after.row.active) (sym active) ∙ released.older ∙ active;
    newer = subst (λ n. AllByRecursion (λ (a : ActiveTask). a.release ≡ n) (drop (length before.row.active) after.row.active)) next
        (subst (λ (xs : List ActiveTask). AllByRecursion (λ (a : ActiveTask). a.release ≡ middle.row.next_tick) (drop (length xs) after.row.active)) active released.newer);
    few = omega (arith, released.few, ap length active, most);
  }
