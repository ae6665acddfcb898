-- After a first half no task is due any longer.
use Rattle.std.proofs.Common.{◌≡◌, ℕ, false, not, ◌&&◌, List, [], ◌∷◌, ◌++◌, filter, Option, Some, None, refl, ap, ◌∙◌}
use Rattle.std.specs.List.{flat_map, AllByRecursion}
use Rattle.std.specs.Option.{option_map_or}
use Rattle.std.proofs.lemmas.Bool.{not-true, or_parts}
use Rattle.giotto_tasks.specs.declared.names.Name.{Name}
use Rattle.giotto_tasks.specs.Names.{same_name, is_among}
use Rattle.giotto_tasks.proofs.cited.ListLemmas.{all_map}
use Rattle.rig_model.specs.text.Program.{TaskInvocation, ModeDeclaration, GiottoProgram}
use Rattle.rig_model.specs.rules.Declarations.{mode_named}
use Rattle.rig_model.specs.Due.{is_due_at}
use Rattle.rig_model.specs.FirstHalf.{due_among, due_in_mode, due_tasks, names_due, still_active, completed_in_mode, first_half_of, first_half_with, stopped_with}
use Rattle.rig_model.specs.Row.{StopReason, TenantState, empty, loaded, running, stopped, ActiveTask, Row, where_some}
use Rattle.tenant_state.proofs.DueTasks.{all_pass, ends, group, names_of_tasks, none_passes, stay}

module _ (m : ModeDeclaration) (time : ℕ) where
  -- no task is due if none of the active tasks ends
  none_among : (active : List ActiveTask) (is : List TaskInvocation) → AllByRecursion (λ (a : ActiveTask). ends m time active is a.task ≡ false) active → flat_map (group m time active) is ≡ []
  none_among active [] none = refl
  none_among active (i ∷ is) none =
      let first : group m time active i ≡ [] =
      none_passes _ active (all_map _ (λ (a : ActiveTask). (same_name a.task i.task && is_due_at time m i.frequency) ≡ false) active (λ a e. (or_parts _ _ e).0) none) in
      ap (λ g. g ++ flat_map (group m time active) is) first ∙ none_among active is (all_map _ (λ (a : ActiveTask). ends m time active is a.task ≡ false) active (λ a e. (or_parts _ _ e).1) none)

  -- no task is due among those that stay active
  none_stays : (active : List ActiveTask) (is : List TaskInvocation) → flat_map (group m time (filter (λ (a : ActiveTask). not (ends m time active is a.task)) active)) is ≡ []
  none_stays active is =
      let left : List ActiveTask = filter (λ (a : ActiveTask). not (ends m time active is a.task)) active in
      none_among left is (all_map _ (λ (a : ActiveTask). ends m time left is a.task ≡ false) left (λ a e. not-true _ e) (all_pass (λ (a : ActiveTask). not (ends m time active is a.task)) active))

none_stopped : (reason : StopReason) (row : Row) → due_tasks (stopped_with reason row) ≡ []
none_stopped reason row = by row.program
  where
    by : (o : Option GiottoProgram) → due_tasks (stopped_with reason (record row { program = o })) ≡ []
    by None = refl
    by (Some p) = refl

-- after a half in which no due task is left open
module _ (row : Row) where
  abbrev runs : GiottoProgram → Row
  runs p = record row { state = running; program = Some p }

  in_its_mode : (p : GiottoProgram) (o : Option ModeDeclaration) → mode_named p row.mode ≡ o → due_tasks (first_half_with [] (runs p)) ≡ []
  in_its_mode p None e = ap (λ o. due_tasks (where_some (completed_in_mode p) o (runs p))) e ∙ ap (λ o. option_map_or (due_in_mode (runs p)) o []) e
  in_its_mode p (Some m) e =
      let now : Row = completed_in_mode p m (runs p) in
      let due : due_tasks (runs p) ≡ flat_map (group m row.mode_time row.active) m.invocations = ap (λ o. option_map_or (due_in_mode (runs p)) o []) e in
      let left : now.active ≡ filter (λ (a : ActiveTask). not (ends m row.mode_time row.active m.invocations a.task)) row.active =
      ap (λ ts. still_active (names_of_tasks ts) row.active) due ∙ stay m row.mode_time row.active m.invocations in
      ap (λ o. due_tasks (where_some (completed_in_mode p) o (runs p))) e ∙ ap (λ o. option_map_or (due_in_mode now) o []) e
      ∙ ap (λ active. due_among active m row.mode_time) left ∙ none_stays m row.mode_time row.active m.invocations

  in_its_program : (o : Option GiottoProgram) → due_tasks (first_half_with [] (record row { state = running; program = o })) ≡ []
  in_its_program None = refl
  in_its_program (Some p) = in_its_mode p (mode_named p row.mode) refl

  in_its_state : (s : TenantState) → due_tasks (first_half_with [] (record row { state = s })) ≡ []
  in_its_state empty = refl
  in_its_state loaded = refl
  in_its_state running = in_its_program row.program
  in_its_state (stopped reason) = refl

-- the same, whichever due tasks were not completed
pub none_due_after : (unfinished : List Name) (row : Row) → due_tasks (first_half_of unfinished row) ≡ []
none_due_after unfinished row = by (filter (is_among unfinished) (names_due row))
  where
    by : (open_names : List Name) → due_tasks (first_half_with open_names row) ≡ []
    by [] = in_its_state row row.state
    by (x ∷ xs) = none_stopped _ row
