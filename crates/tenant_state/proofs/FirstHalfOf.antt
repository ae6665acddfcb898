-- The first half of a row that runs in a mode, by the first invocation whose task is due and not completed.
use Rattle.std.proofs.Common.{◌≡◌, Bool, false, cond, ◌&&◌, List, [], ◌∷◌, ◌++◌, filter, Some, None, refl, ap, ◌∙◌}
use Rattle.std.specs.List.{find, flat_map, AllByRecursion}
use Rattle.std.specs.Option.{option_map_or}
use Rattle.giotto_tasks.specs.Names.{Valuation, is_among, same_name, with_value}
use Rattle.giotto_tasks.specs.Meaning.{value_of}
use Rattle.giotto_tasks.proofs.cited.ListLemmas.{all_of}
use Rattle.giotto_tasks.proofs.cited.TestLemmas.{and_false}
use Rattle.rig_model.specs.text.Program.{ActuatorUpdate, TaskInvocation, ModeDeclaration, GiottoProgram}
use Rattle.rig_model.specs.rules.Declarations.{mode_named}
use Rattle.rig_model.specs.Due.{is_due_at}
use Rattle.tenant_slots.specs.cited.Due.{IsQuietAt}
use Rattle.rig_model.specs.Ports.{holds}
use Rattle.rig_model.specs.Updates.{all_updated, updated, updates_happened}
use Rattle.rig_model.specs.declared.trace.records.Happening.TheVariants as happening
use Rattle.rig_model.specs.trace.Trace.{with_happenings}
use Rattle.rig_model.specs.FirstHalf.{all_ended, ends_happened, still_active, unfinished_tasks, due_in_mode, due_tasks, names_due, first_half_with, completed_in_mode, first_half_of, stopped_with}
use Rattle.rig_model.specs.Row.{running, overrun, ActiveTask, Row, is_running_state, where_some, in_mode}
use Rattle.tenant_state.proofs.DueTasks.{group, is_open, is_unfinished, names_of_tasks, open_names, none_open, none_passes, first_open}

-- a row that runs in this mode of its program
pub record Runs (row : Row) (p : GiottoProgram) (m : ModeDeclaration) : Type 0 where
  pub state : row.state ≡ running
  pub program : row.program ≡ Some p
  pub mode : mode_named p row.mode ≡ Some m

module _ (row : Row) (p : GiottoProgram) (m : ModeDeclaration) (h : Runs row p m) (completed : ActiveTask → Bool) where
  pub due_are : due_tasks row ≡ flat_map (group m row.mode_time row.active) m.invocations
  due_are =
      let a : due_tasks row ≡ option_map_or (due_in_mode row) (mode_named p row.mode) [] = rw (h.state, h.program) refl in
      a ∙ ap (λ o. option_map_or (due_in_mode row) o []) h.mode

  abbrev by_tasks : List ActiveTask → Row
  by_tasks tasks = first_half_with (filter (is_among (open_names m row.mode_time row.active completed tasks)) (names_of_tasks tasks)) row

  -- if no due task is left open
  pub goes_on : find (is_open m row.mode_time row.active completed) m.invocations ≡ None → first_half_of (unfinished_tasks completed row) row ≡ completed_in_mode p m row
  goes_on e =
      ap by_tasks due_are ∙ ap (λ names. first_half_with names row) (none_open m row.mode_time row.active completed m.invocations e)
      ∙ ap (λ s. cond (is_running_state s) (in_mode completed_in_mode row) row) h.state
      ∙ ap (λ o. where_some (λ p. where_some (completed_in_mode p) (mode_named p row.mode)) o row) h.program ∙ ap (λ o. where_some (completed_in_mode p) o row) h.mode

  -- the first task that is left open stops the tenant
  pub stops : (i : TaskInvocation) → find (is_open m row.mode_time row.active completed) m.invocations ≡ Some i → first_half_of (unfinished_tasks completed row) row ≡ stopped_with (overrun i.task) row
  stops i e = ap by_tasks due_are ∙ ap (λ names. first_half_with names row) (first_open m row.mode_time row.active completed m.invocations i e).1

  -- if nothing is due, nothing happens
  module _ (quiet : IsQuietAt m row.mode_time) where
    none_due : (is : List TaskInvocation) → AllByRecursion (λ (i : TaskInvocation). is_due_at row.mode_time m i.frequency ≡ false) is
        → (find (is_open m row.mode_time row.active completed) is ≡ None) × (flat_map (group m row.mode_time row.active) is ≡ [])
    none_due [] all = (refl, refl)
    none_due (i ∷ is) all =
        let others = none_due is all.1 in (
          ap (λ b. cond (b && is_unfinished m row.mode_time row.active completed i.task) (Some i) (find (is_open m row.mode_time row.active completed) is)) all.0 ∙ others.0,
          ap (λ g. g ++ flat_map (group m row.mode_time row.active) is)
              (none_passes _ row.active (all_of (λ (a : ActiveTask). ap (λ b. same_name a.task i.task && b) all.0 ∙ and_false (same_name a.task i.task)) row.active)) ∙ others.1,
        )

    none_updated : (us : List ActuatorUpdate) (ports : Valuation) → AllByRecursion (λ (u : ActuatorUpdate). is_due_at row.mode_time m u.frequency ≡ false) us → all_updated m row.mode_time us ports ≡ ports
    none_updated [] ports all = refl
    none_updated (u ∷ us) ports all =
        ap (λ b. all_updated m row.mode_time us (cond (b && holds u.guard ports) (with_value ports u.actuator (value_of u.value ports)) ports)) all.0 ∙ none_updated us ports all.1

    none_happened : (us : List ActuatorUpdate) (ports : Valuation) → AllByRecursion (λ (u : ActuatorUpdate). is_due_at row.mode_time m u.frequency ≡ false) us → updates_happened m row.mode_time us ports ≡ []
    none_happened [] ports all = refl
    none_happened (u ∷ us) ports all =
        ap (λ b. cond (b && holds u.guard ports) (happening.Act u.actuator (value_of u.value ports) ∷ []) [] ++ updates_happened m row.mode_time us (updated m row.mode_time u ports)) all.0
        ∙ none_happened us (updated m row.mode_time u ports) all.1

    pub unchanged : first_half_of (unfinished_tasks completed row) row ≡ row
    unchanged =
        let none = none_due m.invocations quiet.no_invocation in
        let due : due_tasks row ≡ [] = due_are ∙ none.1 in
        let same_ports : all_updated m row.mode_time m.updates (all_ended p (due_tasks row) row.ports) ≡ row.ports =
        ap (λ ts. all_updated m row.mode_time m.updates (all_ended p ts row.ports)) due ∙ none_updated m.updates row.ports quiet.no_update in
        let same_active : still_active (names_due row) row.active ≡ row.active = ap (λ ts. still_active (names_of_tasks ts) row.active) due ∙ all_stay row.active in
        let nothing : ends_happened p (due_tasks row) ++ updates_happened m row.mode_time m.updates (all_ended p (due_tasks row) row.ports) ≡ [] =
        ap (λ ts. ends_happened p ts ++ updates_happened m row.mode_time m.updates (all_ended p ts row.ports)) due ∙ none_happened m.updates row.ports quiet.no_update in
        goes_on none.0 ∙ (λ k. record row { ports = same_ports k; active = same_active k; records = with_happenings row.next_tick (nothing k) row.records })
      where
        all_stay : (xs : List ActiveTask) → still_active [] xs ≡ xs
        all_stay [] = refl
        all_stay (a ∷ xs) = ap (λ ys. a ∷ ys) (all_stay xs)
