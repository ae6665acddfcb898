-- Mode times after a switch, computed from the definitions.
use Rattle.std.proofs.Common.{◌≡◌, ℕ, [], ◌∷◌, None, refl}
use Rattle.std.specs.Prelude.{codes}
use Rattle.giotto_tasks.specs.declared.names.Name.{Name}
use Rattle.rig_model.specs.text.Program.{TaskInvocation, ModeDeclaration}
use Rattle.rig_model.specs.Row.{ActiveTask}
use Rattle.rig_model.specs.CommonPeriods.{least_common_multiple}
use Rattle.rig_model.specs.SecondHalf.{entry_time}

pub of_two_and_three : least_common_multiple 6 (2 ∷ 3 ∷ []) ≡ 6
of_two_and_three = refl

abbrev invokes : ℕ → Name → TaskInvocation
invokes frequency task = record { frequency = frequency; guard = None; task = task; arguments = [] }

-- every 4 and every 6 of its 24 ticks
abbrev climb : ModeDeclaration
climb = record { name = codes "climb"; period = 24; updates = []; switches = []; invocations = invokes 6 (codes "hold") ∷ invokes 4 (codes "plan") ∷ [] }

abbrev cruise : ModeDeclaration
cruise = record { name = codes "cruise"; period = 36; updates = []; switches = []; invocations = [] }

abbrev active : Name → ActiveTask
active task = record { task = task; release = 3; inputs = []; states = [] }

-- both tasks end together at 24, 10 ticks later; in the mode that is entered they end at 36, also 10 ticks later
pub both_go_on : entry_time climb cruise 14 (active (codes "hold") ∷ active (codes "plan") ∷ []) ≡ 26
both_go_on = refl

-- this task ends at 16, 2 ticks later
pub one_goes_on : entry_time climb cruise 14 (active (codes "hold") ∷ []) ≡ 34
one_goes_on = refl

pub nothing_goes_on : entry_time climb cruise 14 [] ≡ 0
nothing_goes_on = refl
