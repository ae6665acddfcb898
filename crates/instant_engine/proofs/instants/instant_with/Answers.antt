use Rattle.std.proofs.Common.{◌+◌, ◌<◌, ◌++◌, cond, length, Some, None, sym, ap, ◌∙◌, arith}
use Rattle.std.specs.List.{flat_map}
use Rattle.tenant_state.specs.job_table.Finished.{result_in}
use Rattle.tenant_state.specs.Standing.{no_tenant}
use Rattle.rig_model.specs.Tenancies.{Tenancy}
use Rattle.instant_engine.specs.cited.Halves.{last_jobs}
use Rattle.instant_engine.specs.cited.Instants.{AreInstants}
use Rattle.instant_engine.proofs.cited.AtRest.{active_at_rest, instants_at_rest, same_jobs, table_at_rest}
use Rattle.instant_engine.proofs.Between.{all_at}
use Rattle.instant_engine.proofs.cited.Loops.{jobs_of_instant}
use Rattle.instant_engine.proofs.instants.instant_with.Goals as goal

pub add_jobs-requires : goal.add_jobs-requires
add_jobs-requires c = record {
  later = all_at (λ s. 0 < s.row.next_tick) c.advance.new.tenants (λ t lt.
      omega (arith, (c.advance.ensures.instants.moved.each t (omega (arith, lt, c.advance.ensures.instants.moved.as_many))).next_tick));
  shares = c.advance.ensures.shares;
  room = omega (arith, c.advance.ensures.few, c.requires.jobs);
}

pub returns : goal.returns
returns c =
    let mid = c.advance.new.tenants in
    let new = c.add_jobs.new.tenants in
    let rest = c.add_jobs.ensures.rest in
    let is : AreInstants c.args.frame.now c.args.finished.now.entries c.args.tenants.now new = instants_at_rest c.args.frame.now c.args.finished.now.entries c.args.tenants.now mid new rest c.advance.ensures.instants in
    record {
      instants = is;
      entries = λ j. c.advance.ensures.entries j
          ∙ ap (λ b. cond b (Some (record { id = j; result = result_in c.args.finished.now.entries j })) None) (sym (active_at_rest mid new rest j));
      table = table_at_rest c.advance.new.finished.entries mid new rest c.advance.ensures.table;
      jobs = λ n counts.
          c.add_jobs.ensures.jobs ∙ ap (λ js. js ++ flat_map last_jobs mid) c.requires.none ∙ sym (same_jobs mid new rest)
          ∙ jobs_of_instant n 0 new
          (λ t lt. let within : t < length c.args.tenants.now = omega (arith, lt, is.moved.as_many) in omega (arith, ap (λ (y : Tenancy). y.owner.place) (is.moved.each t within).tenancy, c.requires.placed t within))
          (λ t lt. let within : t < length c.args.tenants.now = omega (arith, lt, is.moved.as_many) in (is.moved.each t within).next_tick ∙ ap (λ k. k + 1) (counts t no_tenant within));
    }
