use Rattle.std.proofs.Common.{◌≡◌, ◌≤◌, length, map, take, Some, None}
use Rattle.std.specs.Prelude.{slice_get}
use Rattle.rig_model.specs.text.Program.{ModeDeclaration}
use Rattle.tenant_slots.specs.cited.CommonPeriods.{IsCommonPeriod}
use Rattle.tenant_state.specs.Tenants.{active_of}
use Rattle.tenant_state.proofs.TaskPeriods.{periods_of}
use Rattle.tenant_state.proofs.tenants.switches.common_period.Given as goal

abbrev pub invariant-loop-a : goal.invariant-loop-a
invariant-loop-a l = record {
  there : (m : ModeDeclaration) → slice_get l.checked.modes l.mode ≡ Some m → IsCommonPeriod (periods_of m (map (active_of l.checked) (take l.a-index l.active))) l.common;
  none : length l.checked.modes ≤ l.mode → l.common ≡ None;
}
