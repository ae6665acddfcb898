use Rattle.std.proofs.Common.{◌≡◌, ◌<◌, ◌-◌, ◌^◌, cond, map, Some, None, refl, ap, subst, ◌∙◌, arith}
use Rattle.rig_model.specs.declared.jobs.JobId.{JobId}
use Rattle.tenant_state.specs.job_table.Finished.{entry_in}
use Rattle.instant_engine.specs.cited.Halves.{AreGranted, AreSecondHalves, is_released_among}
use Rattle.tenant_state.specs.cited.Standing.{without_ended}
use Rattle.instant_engine.specs.cited.Tenants.{binds_of}
use Rattle.instant_engine.proofs.Between.{AreHalfway, binds_kept, roster_halfway, all_its_entries, told, placed_middle, halfway, counts_halfway, instants, none_left, can_give, few_jobs, entries_behind, table_behind}
use Rattle.instant_engine.proofs.instants.advance.Goals as goal

pub first_halves-requires : goal.first_halves-requires
first_halves-requires c = record { between = c.requires.between; entries = all_its_entries c.requires.placed c.requires.between c.requires.table; results = c.requires.table.results }

pub keep-requires : goal.keep-requires
keep-requires c = record {
  placed = placed_middle c.requires.placed c.requires.between c.requires.table c.first_halves.ensures.halves;
  told = told c.requires.placed c.requires.between c.requires.table c.first_halves.ensures.halves;
}

pub grant-requires : goal.grant-requires
grant-requires c = record {
  rosters = rw (c.keep.ensures.tenants) (roster_halfway c.requires.placed c.requires.between c.requires.table c.first_halves.ensures.halves c.requires.rosters);
  places = omega (arith, ap binds_of c.keep.ensures.tenants, binds_kept c.first_halves.new.tenants, c.first_halves.ensures.binds, c.requires.places);
}

pub second_halves-requires : goal.second_halves-requires
second_halves-requires c =
    let half : AreHalfway c.args.tenants.now c.keep.new.tenants =
    halfway c.requires.placed c.requires.between c.requires.table c.first_halves.ensures.halves c.keep.new.tenants c.keep.ensures.tenants (c.first_halves.ensures.ready c.requires.ready) c.first_halves.ensures.fewer in
    record {
      rest = half.rest;
      ended_due = half.ended_due;
      counts = counts_halfway c.requires.placed c.requires.between c.requires.table c.first_halves.ensures.halves (λ n. n < 2 ^ 64 - 1) c.keep.new.tenants c.keep.ensures.tenants c.requires.counts;
      places = omega (arith, c.grant.auto.granted, ap binds_of c.keep.ensures.tenants, binds_kept c.first_halves.new.tenants, c.first_halves.ensures.binds, c.requires.places);
      placed = half.placed;
      ready = half.ready;
      room = omega (arith, half.few, c.requires.entries, c.keep.ensures.room);
      new = rw (c.keep.ensures.tenants) (none_left c.requires.placed c.requires.between c.requires.table c.first_halves.ensures.halves c.keep.new.finished.entries c.keep.ensures.entries);
    }

pub returns : goal.returns
returns c =
    let half : AreHalfway c.args.tenants.now (map without_ended c.first_halves.new.tenants) =
    halfway c.requires.placed c.requires.between c.requires.table c.first_halves.ensures.halves (map without_ended c.first_halves.new.tenants) refl (c.first_halves.ensures.ready c.requires.ready) c.first_halves.ensures.fewer in
    let passed = subst (λ ts. AreGranted ts c.grant.new.granted) c.keep.ensures.tenants c.grant.ensures.granted in
    let second = subst (λ ts. AreSecondHalves c.args.frame.now c.grant.new.granted ts c.second_halves.new.tenants) c.keep.ensures.tenants c.second_halves.ensures.halves in
    let enters : (j : JobId) → entry_in c.second_halves.new.finished.entries j ≡ cond (is_released_among (map without_ended c.first_halves.new.tenants) c.second_halves.new.tenants j) (Some (record { id = j; result = None })) (entry_in c.keep.new.finished.entries j) =
    λ j. c.second_halves.ensures.entries j
    ∙ ap (λ ts. cond (is_released_among ts c.second_halves.new.tenants j) (Some (record { id = j; result = None })) (entry_in c.keep.new.finished.entries j)) c.keep.ensures.tenants in
    record {
      instants = instants c.requires.placed c.requires.between c.requires.table c.first_halves.ensures.halves c.args.frame.now c.grant.new.granted c.requires.rosters passed second;
      entries = entries_behind c.requires.placed c.requires.between c.requires.table c.first_halves.ensures.halves c.args.frame.now c.grant.new.granted c.requires.rosters passed second c.keep.new.finished.entries c.second_halves.new.finished.entries c.keep.ensures.entries enters;
      table = table_behind c.requires.placed c.requires.between c.requires.table c.first_halves.ensures.halves c.args.frame.now c.grant.new.granted c.requires.rosters passed second c.keep.new.finished.entries c.second_halves.new.finished.entries c.keep.ensures.entries enters;
      shares = can_give c.requires.placed c.requires.between c.requires.table c.first_halves.ensures.halves c.args.frame.now c.grant.new.granted c.requires.rosters passed second half.ready;
      few = few_jobs c.requires.placed c.requires.between c.requires.table c.first_halves.ensures.halves c.args.frame.now c.grant.new.granted c.requires.rosters passed second half.few;
    }
