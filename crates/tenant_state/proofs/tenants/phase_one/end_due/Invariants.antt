use Rattle.std.proofs.Common.{◌≡◌, ◌<◌, None, map, drop, length}
use Rattle.std.specs.List.{find, flat_map, AllByRecursion}
use Rattle.tenant_slots.specs.well_formed.cited.Slots.{slots_of}
use Rattle.tenant_slots.specs.well_formed.Slots.{valuation_of}
use Rattle.tenant_slots.specs.well_formed.cited.Timetables.{AreEach, IsInvocation}
use Rattle.giotto_check.specs.declared.timetables.SlotInvocation.{SlotInvocation}
use Rattle.rig_model.specs.text.Program.{ModeDeclaration}
use Rattle.rig_model.specs.FirstHalf.{all_ended}
use Rattle.tenant_state.specs.Tenants.{active_of}
use Rattle.tenant_state.proofs.DueTasks.{group}
use Rattle.tenant_state.specs.inner.EntryTable.{ends_noted, is_left_open}
use Rattle.tenant_state.specs.inner.Tenants.{is_done}
use Rattle.tenant_state.proofs.tenants.phase_one.end_due.Given as goal

abbrev pub invariant-loop-invocation : goal.invariant-loop-invocation
invariant-loop-invocation l =
    let p = l.ending.checked.now in
    let active = map (active_of p) l.active in
    let left = drop l.invocation-index l.invocations in
    record {
      time : l.due ≡ l.ending.time;
      long : length l.values ≡ slots_of p;
      positive : AllByRecursion (λ (i : SlotInvocation). 0 < i.interval) left;
      there : AllByRecursion (λ (i : SlotInvocation). i.task < length p.tasks) left;
      done : find (is_left_open l.ending.time (is_done l.ending.finished.now.entries l.ending.tenant p) l.active) left ≡ None;
      value : (m : ModeDeclaration) → AreEach (IsInvocation p m) m.invocations l.invocations
          → all_ended p (flat_map (group m l.ending.time active) (drop l.invocation-index m.invocations)) (valuation_of p l.values) ≡ all_ended p (flat_map (group m l.ending.time active) m.invocations) (valuation_of p l.initial.values);
      told : (m : ModeDeclaration) → AreEach (IsInvocation p m) m.invocations l.invocations
          → ends_noted p l.ending.tick (flat_map (group m l.ending.time active) (drop l.invocation-index m.invocations)) l.trace ≡ ends_noted p l.ending.tick (flat_map (group m l.ending.time active) m.invocations) l.initial.trace;
    }
