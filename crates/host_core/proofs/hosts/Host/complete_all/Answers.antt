use Rattle.std.proofs.Common.{◌≡◌, ◌||◌, List, length, map, sym, ap, subst, ◌∙◌}
use Rattle.instant_engine.specs.cited.Tables.{IsTaskTable}
use Rattle.instant_engine.specs.cited.Tenants.{is_active_among}
use Rattle.rig_model.specs.declared.jobs.JobId.{JobId}
use Rattle.instant_engine.specs.job_table.Finished.{has_result}
use Rattle.rig_model.specs.Host.{host_after}
use Rattle.rig_model.specs.HostState.{HostState}
use Rattle.host_core.specs.HostStanding.{HostStanding, Stands, outstanding_from, outstanding_jobs}
use Rattle.instant_engine.specs.state.Standing.{Standing, at_rest}
use Rattle.host_core.proofs.AtRest.{standing, stands_inside, stands_outside, outstanding_at_rest}
use Rattle.host_core.proofs.Completed.{after_done, host_after_done, stands_completed}
use Rattle.host_core.proofs.hosts.Host.complete_all.Goals as goal

pub invariant_of-self : goal.invariant_of-self
invariant_of-self c = record {
  whole = record {
    as_many = c.self.invariant.whole.as_many;
    known = c.self.invariant.whole.known;
    placed = c.self.invariant.whole.placed;
    tenancies = c.self.invariant.whole.tenancies;
    table = subst (λ (xs : List Standing). IsTaskTable xs c.complete_each.new.finished.entries) c.as_slice.ensures.value c.complete_each.ensures.table;
  };
  places = c.self.invariant.places;
}

pub returns-clause-step : goal.returns-clause-step
returns-clause-step c = λ setting past stands.
    let host : HostStanding = standing c.self.inside in
    let later : HostStanding = record host { entries = c.complete_each.new.finished.entries } in
    let state : HostState = host_after setting past in
    let inside : Stands setting host state = stands_inside setting host state (subst (λ h. Stands setting h state) (sym c.self.view_is) stands) in
    let results : (j : JobId) → has_result later.entries j ≡ (has_result host.entries j || is_active_among host.tenants j) =
    λ j. c.complete_each.ensures.results j ∙ ap (λ (xs : List Standing). has_result host.entries j || is_active_among xs j) c.as_slice.ensures.value in
    let jobs = ap (λ (h : HostStanding). outstanding_jobs h) (sym c.self.view_is) ∙ outstanding_at_rest host.entries host.tenants in
    let done = host_after_done setting (outstanding_jobs c.args.self.now) past ∙ ap (λ js. after_done setting js state) jobs in
    subst (Stands setting (record later { tenants = map at_rest later.tenants })) (sym done)
    (stands_outside setting later (after_done setting (outstanding_jobs host) state) (stands_completed setting host state c.self.invariant.whole.placed inside later.entries results))

pub returns-clause-number : goal.returns-clause-number
returns-clause-number c =
    c.complete_each.ensures.number
    ∙ (ap (λ (xs : List Standing). length (outstanding_from c.self.inside.finished.entries 0 xs)) c.as_slice.ensures.value
    ∙ (sym (ap length (outstanding_at_rest c.self.inside.finished.entries c.self.inside.tenants.items)) ∙ ap (λ (h : HostStanding). length (outstanding_jobs h)) c.self.view_is))
