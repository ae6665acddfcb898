-- Mode times at which nothing of a mode is due, and the tasks that are due at one.
use Rattle.std.specs.Prelude.{◌≡◌, ℕ, Bool, false, nat_eq, ◌<◌, ◌≤◌, ◌-◌, ◌^◌, ◌%◌, ◌==◌, ◌&&◌, List, get_or}
use Rattle.std.specs.List.{list_any, AllByRecursion}
use Rattle.giotto_check.specs.declared.timetables.SlotInvocation.{SlotInvocation}
use Rattle.rig_model.specs.text.Program.{ActuatorUpdate, ModeSwitch, TaskInvocation, ModeDeclaration}
use Rattle.rig_model.specs.Due.{is_due_at}
use Rattle.tenant_slots.specs.declared.due.TheConstants.{TABLED_TASKS}

-- nothing of the mode is due at this mode time
pub record IsQuietAt (m : ModeDeclaration) (time : ℕ) : Type 0 where
  pub no_update : AllByRecursion (λ (u : ActuatorUpdate). is_due_at time m u.frequency ≡ false) m.updates
  pub no_switch : AllByRecursion (λ (s : ModeSwitch). is_due_at time m s.frequency ≡ false) m.switches
  pub no_invocation : AllByRecursion (λ (i : TaskInvocation). is_due_at time m i.frequency ≡ false) m.invocations

-- nothing of the mode is due from this mode time on, before the next
abbrev pub IsQuietUntil : ModeDeclaration → ℕ → ℕ → Type 0
IsQuietUntil m time next = (t : ℕ) → time ≤ t → t < next → IsQuietAt m t

-- the next mode time, from this one on, at which something of the mode is due, or the greatest 64-bit number if that comes first
pub record IsNextDue (m : ModeDeclaration) (time next : ℕ) : Type 0 where
  pub from : time ≤ next
  pub quiet : IsQuietUntil m time next
  pub due : IsQuietAt m next → next ≡ 2 ^ 64 - 1

-- whether the task at a place is due
abbrev pub is_among_due : ℕ → ℕ → List SlotInvocation → Bool
is_among_due time task invocations = list_any (λ (i : SlotInvocation). nat_eq task i.task && (time % i.interval == 0)) invocations

-- each mark says whether its task is due
abbrev pub MarksDue : List SlotInvocation → ℕ → List Bool → Type 0
MarksDue invocations time marks = (t : ℕ) → t < TABLED_TASKS → get_or marks t false ≡ is_among_due time t invocations
