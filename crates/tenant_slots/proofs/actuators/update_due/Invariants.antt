use Rattle.std.proofs.Common.{◌≡◌, ◌≤◌, Some, length, drop, slice_get}
use Rattle.rig_model.specs.text.Program.{ModeDeclaration}
use Rattle.giotto_check.specs.cited.Slots.{slots_of}
use Rattle.giotto_check.specs.Slots.{valuation_of}
use Rattle.rig_model.specs.trace.cited.Noted.{noted}
use Rattle.rig_model.specs.Updates.{all_updated, updates_happened}
use Rattle.tenant_slots.proofs.actuators.update_due.Given as goal

abbrev pub invariant-loop-update : goal.invariant-loop-update
invariant-loop-update l = record {
  time : l.due ≡ l.time;
  long : length l.values ≡ slots_of l.checked;
  updated : (m : ModeDeclaration) → slice_get l.checked.modes l.mode ≡ Some m
      → all_updated m l.time (drop l.update-index m.updates) (valuation_of l.checked l.values) ≡ all_updated m l.time m.updates (valuation_of l.checked l.initial.values);
  noted : (m : ModeDeclaration) → slice_get l.checked.modes l.mode ≡ Some m
      → noted l.tick (updates_happened m l.time (drop l.update-index m.updates) (valuation_of l.checked l.values)) l.trace
      ≡ noted l.tick (updates_happened m l.time m.updates (valuation_of l.checked l.initial.values)) l.initial.trace;
  missing : length l.checked.modes ≤ l.mode → (l.values ≡ l.initial.values) × (l.trace ≡ l.initial.trace);
}
