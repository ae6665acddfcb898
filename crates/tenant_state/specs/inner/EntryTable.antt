-- The active entries, by the places of the tasks.
use Rattle.std.specs.Prelude.{◌≡◌, ◌<◌, ◌≤◌, ◌-◌, ◌%◌, ◌==◌, ◌&&◌, ℕ, ℤ, nat_eq, Bool, not, List, [], ◌∷◌, map, filter, get_or, take, drop}
use Rattle.std.specs.List.{list_any}
use Rattle.tenant_slots.specs.well_formed.Slots.{valuation_of}
use Rattle.giotto_check.specs.declared.timetables.SlotInvocation.{SlotInvocation}
use Rattle.rig_model.specs.text.Program.{GiottoProgram, ModeDeclaration}
use Rattle.tenant_state.specs.declared.tenants.Active.{Active}
use Rattle.rig_model.specs.FirstHalf.{all_ended, due_among, outputs_of_end}
use Rattle.rig_model.specs.Row.{ActiveTask}
use Rattle.rig_model.specs.rules.Declarations.{task_named}
use Rattle.std.specs.Option.{option_map_or}
use Rattle.rig_model.specs.trace.Trace.{LastRecords}
use Rattle.rig_model.specs.trace.cited.Noted.{noted}
use Rattle.tenant_state.specs.Tenants.{active_of}
use Rattle.tenant_slots.specs.declared.due.TheConstants.{TABLED_TASKS}

-- the active entries of the task at this place
abbrev pub entries_at : ℕ → List Active → List Active
entries_at task active = filter (λ (a : Active). nat_eq a.task task) active

-- each task has at most one of the first `count` entries. The table has the number of this entry, from 1, or 0 if there is none.
abbrev pub IsTableOf : ℕ → List Active → List ℕ → Type 0
IsTableOf count active table =
    (t : ℕ) → t < TABLED_TASKS → (get_or table t 0 ≤ count) × (entries_at t (take count active) ≡ take (get_or table t 0 - (get_or table t 0 - 1)) (drop (get_or table t 0 - 1) active))

-- whether the task at this place has an active entry that isn't done
abbrev pub is_task_open : (Active → Bool) → List Active → ℕ → Bool
is_task_open done active task = list_any (λ (a : Active). nat_eq a.task task && not (done a)) active

-- whether the invocation's task is due and has an active entry that isn't done
abbrev pub is_left_open : ℕ → (Active → Bool) → List Active → SlotInvocation → Bool
is_left_open time done active i = (time % i.interval == 0) && is_task_open done active i.task

-- the values in the slots before and after the ends of the entries that are due in the mode at this mode time
abbrev pub AreDueEnded : GiottoProgram → ModeDeclaration → ℕ → List Active → List ℤ → List ℤ → Type 0
AreDueEnded p m time active before after = valuation_of p after ≡ all_ended p (due_among (map (active_of p) active) m time) (valuation_of p before)

-- a trace after the ends of these tasks at instant n
abbrev pub ends_noted : GiottoProgram → ℕ → List ActiveTask → LastRecords → LastRecords
ends_noted p n [] t = t
ends_noted p n (a ∷ rest) t = ends_noted p n rest (noted n (option_map_or (outputs_of_end a) (task_named p a.task) []) t)

-- the trace before and after the ends of the entries that are due in the mode at this mode time
abbrev pub AreEndsNoted : GiottoProgram → ModeDeclaration → ℕ → ℕ → List Active → LastRecords → LastRecords → Type 0
AreEndsNoted p m time n active before after = after ≡ ends_noted p n (due_among (map (active_of p) active) m time) before
