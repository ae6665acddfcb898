use Rattle.std.proofs.Common.{◌≡◌, false, map, drop, length}
use Rattle.std.specs.List.{AllByRecursion}
use Rattle.tenant_slots.specs.well_formed.cited.Slots.{slots_of}
use Rattle.tenant_slots.specs.well_formed.Slots.{valuation_of}
use Rattle.rig_model.specs.FirstHalf.{all_ended}
use Rattle.tenant_state.specs.Tenants.{active_of}
use Rattle.tenant_state.specs.inner.EntryTable.{ends_noted, entries_at, is_task_open}
use Rattle.tenant_state.specs.inner.Tenants.{IsActiveOf, IsResultRight, is_done}
use Rattle.tenant_state.proofs.tenants.phase_one.end_each.Given as goal

abbrev pub invariant-loop-a : goal.invariant-loop-a
invariant-loop-a l =
    let p = l.ending.checked.now in
    let left = drop l.a-index l.active in
    record {
      long : length l.values ≡ slots_of p;
      each : AllByRecursion (IsActiveOf p) left;
      right : AllByRecursion (IsResultRight l.ending.finished.now.entries l.ending.tenant p) left;
      done : is_task_open (is_done l.ending.finished.now.entries l.ending.tenant p) left l.task ≡ false;
      value : all_ended p (map (active_of p) (entries_at l.task left)) (valuation_of p l.values)
          ≡ all_ended p (map (active_of p) (entries_at l.task l.active)) (valuation_of p l.initial.values);
      told : ends_noted p l.ending.tick (map (active_of p) (entries_at l.task left)) l.trace ≡ ends_noted p l.ending.tick (map (active_of p) (entries_at l.task l.active)) l.initial.trace;
    }
