-- A task's ports by their slots. Those of its inputs are consecutive, and so are those of its states.
use Rattle.std.proofs.Common.{◌≡◌, ℕ, zero, suc, ◌+◌, ◌-◌, ◌<◌, ℤ, List, [], ◌∷◌, length, map, take, drop, get_or, Some, None, sym, ap, subst, ◌∙◌, arith}
use Rattle.std.specs.Prelude.{slice_get}
use Rattle.std.specs.Arc.{arc_value}
use Rattle.std.specs.Option.{option_map}
use Rattle.std.specs.List.{AllByRecursion, range_with_len}
use Rattle.std.proofs.lemmas.List.{length-map}
use Rattle.std.proofs.lemmas.Option.{slice_get-get_or, slice_get-map, slice_get_within}
use Rattle.std.proofs.lemmas.Slice.Zip.{firsts-zip}
use Rattle.giotto_tasks.specs.declared.names.Name.{Name}
use Rattle.giotto_tasks.specs.Names.{values_of}
use Rattle.giotto_tasks.proofs.cited.ListLemmas.{some_same}
use Rattle.rig_model.specs.text.PortNames.{own_port, own_ports, with_values}
use Rattle.rig_model.specs.text.Program.{TaskDeclaration, GiottoProgram, names_of}
use Rattle.rig_model.specs.text.ProgramTrees as trees
use Rattle.rig_model.specs.declared.text.programs.Task.{Task}
use Rattle.giotto_check.specs.cited.Facts.{ProgramFits}
use Rattle.giotto_check.specs.Slots.{port_names, valuation_of}
use Rattle.rig_model.specs.rules.Ports.{ports_of, shown_name, slot_of}
use Rattle.giotto_check.specs.cited.Slots.{slots_of, with_slots}
use Rattle.giotto_check.specs.cited.Timetables.{AreTaskSlots, HaveSlotsFrom}
use Rattle.giotto_check.specs.declared.timetables.TaskSlots.{TaskSlots}
use Rattle.giotto_check.proofs.cited.SlotLemmas.{names_at_slots, names_in_row, shared_shown}
use Rattle.giotto_check.proofs.cited.Valuations.{values_in_range, with_values_at_places}
use Rattle.tenant_slots.proofs.cited.Numbered.{slot_within}

-- a task has as many initial values as states
pub states_counted : (p : GiottoProgram) (items : List Task) (k : ℕ) (d : Task) (t : TaskDeclaration) → map trees.task_of items ≡ p.tasks → slice_get p.tasks k ≡ Some t → length (get_or items k d).states ≡ length (names_of t.states)
states_counted p items k d t all at =
    let item = get_or items k d in
    let lt : k < length items = omega (arith, slice_get_within p.tasks k t at, ap length all, length-map items trees.task_of) in
    let here : slice_get p.tasks k ≡ Some (trees.task_of item) = ap (λ ts. slice_get ts k) (sym all) ∙ slice_get-map trees.task_of items k ∙ ap (option_map trees.task_of) (slice_get-get_or items k d lt) in
    subst (λ (t : TaskDeclaration). length item.states ≡ length (names_of t.states)) (some_same _ t (sym here ∙ at)) (item.each_state ∙ ap length (sym (firsts-zip _ item.states item.each_state)))

-- and its body names its outputs
pub outputs_named : (p : GiottoProgram) (items : List Task) (k : ℕ) (d : Task) (t : TaskDeclaration) → map trees.task_of items ≡ p.tasks → slice_get p.tasks k ≡ Some t → (arc_value (get_or items k d).body).outputs ≡ t.outputs
outputs_named p items k d t all at =
    let lt : k < length items = omega (arith, slice_get_within p.tasks k t at, ap length all, length-map items trees.task_of) in
    let here : slice_get p.tasks k ≡ Some (trees.task_of (get_or items k d)) =
    ap (λ ts. slice_get ts k) (sym all) ∙ slice_get-map trees.task_of items k ∙ ap (option_map trees.task_of) (slice_get-get_or items k d lt) in
    ap (λ (t : TaskDeclaration). t.outputs) (some_same _ t (sym here ∙ at))

module _ (p : GiottoProgram) where
  -- consecutive slots of a task are slots of the program
  pub row_within : (t : Name) (names : List Name) (first i : ℕ) → HaveSlotsFrom p t names first → i < length names → first + i < slots_of p
  row_within t [] first i slots lt = absurd (omega (arith, lt))
  row_within t (x ∷ xs) first zero slots lt =
      let here : slot_of p (Some t) x ≡ Some first = cc in
      omega (arith, slot_within p (Some t) x first here)
  row_within t (x ∷ xs) first (suc i) slots lt =
      let rest : HaveSlotsFrom p t xs (first + 1) = cc in
      omega (arith, row_within t xs (first + 1) i rest (omega (arith, lt)))

  -- so are the slots of outputs
  pub all_within : (n : ℕ) (names : List Name) (ks : List ℕ) → n ≡ slots_of p → map (slot_of p None) names ≡ map Some ks → AllByRecursion (λ k. k < n) ks
  all_within n [] [] long at = tt
  all_within n [] (k ∷ ks) long at = absurd (cc)
  all_within n (x ∷ xs) [] long at = absurd (cc)
  all_within n (x ∷ xs) (k ∷ ks) long at =
      let here : slot_of p None x ≡ Some k = cc in
      (omega (arith, long, slot_within p None x k here), all_within n xs ks long (cc))

  module _ (fits : ProgramFits p) (values : List ℤ) (long : length values ≡ slots_of p) where
    names_long : length (port_names p) ≡ length values
    names_long = length-map (ports_of p) shown_name ∙ sym long

    -- consecutive slots are read, and written
    pub row_read : (t : Name) (names : List Name) (first : ℕ) → HaveSlotsFrom p t names first → values_of (valuation_of p values) (own_ports t names) ≡ take (length names) (drop first values)
    row_read t names first slots =
        let count : first + length (own_ports t names) - first ≡ length names = omega (arith, length-map names (own_port t)) in
        values_in_range (port_names p) values (own_ports t names) first fits.ports_once (names_in_row p t names first slots) names_long ∙ ap (λ n. take n (drop first values)) count

    pub row_written : (t : Name) (names : List Name) (first : ℕ) (zs : List ℤ) → HaveSlotsFrom p t names first → length zs ≡ length names
        → valuation_of p (with_slots values (range_with_len first (length zs)) zs) ≡ with_values (valuation_of p values) (own_ports t names) zs
    row_written t names first zs slots same =
        ap (λ n. valuation_of p (with_slots values (range_with_len first n) zs)) (same ∙ sym (length-map names (own_port t)))
        ∙ sym (with_values_at_places (port_names p) values (own_ports t names) _ zs fits.ports_once (names_in_row p t names first slots) names_long)

    pub all_written_at : (names : List Name) (ks : List ℕ) (zs : List ℤ) → map (slot_of p None) names ≡ map Some ks → valuation_of p (with_slots values ks zs) ≡ with_values (valuation_of p values) names zs
    all_written_at names ks zs at = sym (with_values_at_places (port_names p) values names ks zs fits.ports_once (names_at_slots p None names ks at ∙ ap (map Some) (shared_shown names)) names_long)

-- the slots of the task at a place, however the task is given
pub of_task : (p : GiottoProgram) (k : ℕ) (t : TaskDeclaration) (entry : TaskSlots) → (u : TaskDeclaration) × (slice_get p.tasks k ≡ Some u) × AreTaskSlots p u entry → slice_get p.tasks k ≡ Some t → AreTaskSlots p t entry
of_task p k t entry found at = subst (λ (u : TaskDeclaration). AreTaskSlots p u entry) (some_same found.0 t (sym found.1 ∙ at)) found.2
