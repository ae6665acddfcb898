use Rattle.std.proofs.Common.{◌≡◌, ◌<◌, ◌||◌, false, map, length, sym, ap, subst, ◌∙◌}
use Rattle.std.proofs.lemmas.List.{get_or_default}
use Rattle.instant_engine.specs.Tenants.{tenant_at}
use Rattle.rig_model.specs.declared.jobs.JobId.{JobId}
use Rattle.instant_engine.specs.job_table.Finished.{entry_in, has_result}
use Rattle.instant_engine.specs.state.Standing.{Standing, at_rest, no_tenant}
use Rattle.instant_engine.specs.state.cited.Standing.{HasItsResults, has_active}
use Rattle.rig_model.specs.Host.{host_after}
use Rattle.rig_model.specs.HostState.{HostState}
use Rattle.host_core.specs.HostStanding.{HostStanding, Stands, outstanding_of}
use Rattle.host_core.proofs.AtRest.{standing, stands_inside, stands_outside, outstanding_at_rest_of}
use Rattle.host_core.proofs.Completed.{after_done, host_after_done, stands_completed_at}
use Rattle.host_core.proofs.HostTables.{has_its_entries, table_completed}
use Rattle.host_core.proofs.hosts.Host.complete_tenant.Goals as goal

pub complete_all-requires : goal.complete_all-requires
complete_all-requires c =
    let known : c.args.tenant < length c.self.inside.config.tenants = subst (λ (h : HostStanding). c.args.tenant < length h.config.tenants) (sym c.self.view_is) c.requires in
    let within : c.args.tenant < length c.self.inside.tenants.items = subst (λ n. c.args.tenant < n) (sym c.self.invariant.whole.as_many) known in
    record { entries = has_its_entries c.self.inside.tenants.items c.self.inside.finished.entries c.args.tenant c.index.result.now within c.index.ensures c.self.invariant.whole.placed c.self.invariant.whole.table }

pub invariant_of-self : goal.invariant_of-self
invariant_of-self c = record {
  whole = let tenants = c.self.inside.tenants.items in
      let known : c.args.tenant < length c.self.inside.config.tenants = subst (λ (h : HostStanding). c.args.tenant < length h.config.tenants) (sym c.self.view_is) c.requires in
      let within : c.args.tenant < length tenants = subst (λ n. c.args.tenant < n) (sym c.self.invariant.whole.as_many) known in
      let here : c.index.result.now ≡ tenant_at tenants c.args.tenant = c.index.ensures ∙ get_or_default tenants c.args.tenant c.index.result.now no_tenant within in
      record {
        as_many = c.self.invariant.whole.as_many;
        known = c.self.invariant.whole.known;
        placed = c.self.invariant.whole.placed;
        tenancies = c.self.invariant.whole.tenancies;
        table = table_completed tenants c.self.inside.finished.entries c.complete_all.new.finished.entries c.args.tenant c.self.invariant.whole.placed within c.complete_all.ensures.entered
            (subst (λ (s : Standing). HasItsResults s c.self.inside.finished.entries → HasItsResults s c.complete_all.new.finished.entries) here c.complete_all.ensures.right)
            (subst (λ (s : Standing). (j : JobId) → has_active s j ≡ false → entry_in c.complete_all.new.finished.entries j ≡ entry_in c.self.inside.finished.entries j) here c.complete_all.ensures.others)
            c.self.invariant.whole.table;
      };
  places = c.self.invariant.places;
}

pub returns-clause-step : goal.returns-clause-step
returns-clause-step c = λ setting past stands.
    let host : HostStanding = standing c.self.inside in
    let later : HostStanding = record host { entries = c.complete_all.new.finished.entries } in
    let state : HostState = host_after setting past in
    let inside : Stands setting host state = stands_inside setting host state (subst (λ h. Stands setting h state) (sym c.self.view_is) stands) in
    let known : c.args.tenant < length host.config.tenants = subst (λ (h : HostStanding). c.args.tenant < length h.config.tenants) (sym c.self.view_is) c.requires in
    let within : c.args.tenant < length host.tenants = subst (λ n. c.args.tenant < n) (sym c.self.invariant.whole.as_many) known in
    let here : c.index.result.now ≡ tenant_at host.tenants c.args.tenant = c.index.ensures ∙ get_or_default host.tenants c.args.tenant c.index.result.now no_tenant within in
    let results : (j : JobId) → has_result later.entries j ≡ (has_result host.entries j || has_active (tenant_at host.tenants c.args.tenant) j) =
    subst (λ (s : Standing). (j : JobId) → has_result later.entries j ≡ (has_result host.entries j || has_active s j)) here c.complete_all.ensures.results in
    let jobs : outstanding_of c.args.self.now c.args.tenant ≡ outstanding_of host c.args.tenant =
    ap (λ (h : HostStanding). outstanding_of h c.args.tenant) (sym c.self.view_is) ∙ outstanding_at_rest_of host c.args.tenant in
    let done = host_after_done setting (outstanding_of c.args.self.now c.args.tenant) past ∙ ap (λ js. after_done setting js state) jobs in
    subst (Stands setting (record later { tenants = map at_rest later.tenants })) (sym done)
    (stands_outside setting later (after_done setting (outstanding_of host c.args.tenant) state)
    (stands_completed_at setting host state c.self.invariant.whole.placed inside c.args.tenant (subst (λ n. c.args.tenant < n) inside.as_many within) later.entries results))
