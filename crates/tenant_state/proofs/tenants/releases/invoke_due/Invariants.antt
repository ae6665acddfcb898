use Rattle.std.proofs.Common.{◌≡◌, ◌+◌, [], Some, drop, slice_get}
use Rattle.std.specs.List.{AllByRecursion}
use Rattle.rig_model.specs.text.Program.{ModeDeclaration}
use Rattle.tenant_slots.specs.well_formed.Slots.{valuation_of}
use Rattle.tenant_state.specs.inner.Tenants.{IsActiveIn}
use Rattle.tenant_state.proofs.Released.{IsInvokedTo}
use Rattle.tenant_state.proofs.tenants.releases.invoke_due.Given as goal

abbrev pub invariant-loop-invocation : goal.invariant-loop-invocation
invariant-loop-invocation l = record {
  time : l.due ≡ l.time;
  each : AllByRecursion (IsActiveIn l.checked (l.release + 1)) l.active.items;
  rest : l.active.ended ≡ [];
  to : (m : ModeDeclaration) → slice_get l.checked.modes l.mode ≡ Some m
      → IsInvokedTo l.checked m l.time l.release l.initial.active.items (valuation_of l.checked l.initial.values) (drop l.invocation-index m.invocations) l.active (valuation_of l.checked l.values);
}
