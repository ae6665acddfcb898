use Rattle.std.proofs.Common.{◌≡◌, ◌+◌, ◌++◌, length, map, drop}
use Rattle.std.specs.Arc.{arc_value}
use Rattle.std.specs.Option.{option_map}
use Rattle.tenant_slots.specs.well_formed.cited.Timetables.{AreEach}
use Rattle.tenant_state.specs.inner.Tenants.{IsShareOf, its_job, released_in}
use Rattle.tenant_state.proofs.AddedJobs.{AreLeft}
use Rattle.tenant_state.proofs.tenants.phase_two.add_jobs.Given as goal

abbrev pub invariant-loop-entry : goal.invariant-loop-entry
invariant-loop-entry l =
    let rest = released_in l.tick (drop l.entry-index l.active) in
    record {
      each : AreEach IsShareOf l.checked.tasks (map (option_map arc_value) l.shares);
      left : AreLeft l.checked arc_value l.shares rest;
      jobs : l.jobs.jobs ++ map (its_job l.tenant l.checked) rest ≡ l.initial.jobs.jobs ++ map (its_job l.tenant l.checked) (released_in l.tick l.active);
      room : l.jobs.room + length (released_in l.tick l.active) ≡ l.initial.jobs.room + length rest;
    }
