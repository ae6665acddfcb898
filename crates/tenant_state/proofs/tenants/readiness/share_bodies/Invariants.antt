use Rattle.std.proofs.Common.{◌≡◌, is_some, true, length, map, take}
use Rattle.std.specs.Arc.{arc_value}
use Rattle.std.specs.List.{list_all}
use Rattle.std.specs.Option.{option_map}
use Rattle.tenant_slots.specs.well_formed.cited.Timetables.{AreEach}
use Rattle.rig_model.specs.text.ProgramTrees.{task_of}
use Rattle.tenant_state.specs.inner.Tenants.{IsShareOf}
use Rattle.tenant_state.proofs.tenants.readiness.share_bodies.Given as goal

abbrev pub invariant-loop-k : goal.invariant-loop-k
invariant-loop-k l = record {
  long : length l.tasks ≡ length l.shares;
  each : AreEach IsShareOf (map task_of l.tasks) (map (option_map arc_value) l.shares);
  shared : list_all is_some (take l.k l.shares) ≡ true;
}
