use Rattle.std.proofs.Common.{◌≡◌, ◌<◌, List, length, map, get_or, set, sym, ap, subst, ◌∙◌, arith}
use Rattle.std.proofs.lemmas.List.{get_or_default}
use Rattle.rig_model.specs.Host.{after_event}
use Rattle.rig_model.specs.declared.events.Event.TheVariants.{Own}
use Rattle.host_core.specs.HostStanding.{HostStanding, Stands, outstanding_count, outstanding_from}
use Rattle.host_core.specs.inner.HostStanding.{IsWhole}
use Rattle.host_core.specs.Questions.{LeavesRow}
use Rattle.instant_engine.specs.Tenants.{tenant_at}
use Rattle.instant_engine.specs.job_table.Finished.{TaskTable}
use Rattle.instant_engine.specs.state.Memory.{takes_memory}
use Rattle.rig_model.specs.Tenancies.{Tenancy}
use Rattle.instant_engine.specs.state.Standing.{Standing, at_rest, no_tenant}
use Rattle.instant_engine.specs.state.cited.Standing.{without_ended}
use Rattle.host_core.proofs.AtRest.{here_at_rest, outstanding_at_rest, standing, stands_inside, stands_outside}
use Rattle.host_core.proofs.HostSteps.{own_outcome, stands_after_command}
use Rattle.instant_engine.specs.cited.Instants.{IsBetween}
use Rattle.host_core.proofs.Listed.{Leaves, asked_leaves, listed_leaves, nothing_ended, same_at_rest, same_set}
use Rattle.host_core.proofs.HostTables.{command_still, outstanding_behind, whole_behind}
use Rattle.host_core.proofs.hosts.Host.carry_out.Goals as goal
use Rattle.host_core.proofs.hosts.Host.carry_out.Goals.{After-self-1}
use Rattle.rig_model.specs.config.Roster.{Rig}

module _ (c : After-self-1) where
  -- the tenant of the command is one of the host's
  within : c.args.tenant < length c.self.inside.config.tenants
  within = subst (λ (h : HostStanding). c.args.tenant < length h.config.tenants) (sym c.self.view_is) c.requires

  among : c.args.tenant < length c.self.inside.tenants.items
  among = subst (λ n. c.args.tenant < n) (sym c.self.invariant.whole.as_many) within

  here : c.index_mut-tenant.result.now ≡ tenant_at c.self.inside.tenants.items c.args.tenant
  here = c.index_mut-tenant.ensures.value ∙ get_or_default c.self.inside.tenants.items c.args.tenant c.index_mut-tenant.result.now no_tenant among

  abbrev old_of : Standing
  old_of = c.index_mut-tenant.result.now

  abbrev new_of : Standing
  new_of = c.carry_out-reply.new.self

  -- a command that leaves its tenant's row unchanged leaves the host unchanged
  same_behind : Leaves old_of new_of c.args.prepared c.carry_out-reply.result
      → record (standing c.self.inside) { tenants = map at_rest (set c.self.inside.tenants.items c.args.tenant c.leave.new.self); entries = c.leave.new.finished.entries } ≡ c.args.self.now
  same_behind leaves =
      let inside = standing c.self.inside in
      let between : IsBetween old_of = subst IsBetween (sym c.index_mut-tenant.ensures.value) (c.self.invariant.whole.known c.args.tenant old_of among).1 in
      let ended = nothing_ended old_of new_of c.args.prepared c.carry_out-reply.result leaves between c.carry_out-reply.ensures.tenancy c.carry_out-reply.ensures.step c.carry_out-reply.ensures.ended in
      let rests : at_rest (without_ended new_of) ≡ at_rest (get_or c.self.inside.tenants.items c.args.tenant old_of) =
      same_at_rest old_of new_of c.args.prepared c.carry_out-reply.result leaves between c.carry_out-reply.ensures.tenancy c.carry_out-reply.ensures.step c.carry_out-reply.ensures.ended
      ∙ ap at_rest c.index_mut-tenant.ensures.value in
      ap (λ (s : Standing). record inside { tenants = map at_rest (set c.self.inside.tenants.items c.args.tenant s); entries = c.leave.new.finished.entries }) c.leave.ensures.same
      ∙ (ap (λ (ts : List Standing). record inside { tenants = ts; entries = c.leave.new.finished.entries }) (same_set c.self.inside.tenants.items c.args.tenant (without_ended new_of) old_of among rests)
      ∙ (ap (λ (f : TaskTable). record inside { tenants = map at_rest c.self.inside.tenants.items; entries = f.entries }) (c.leave.ensures.none ended)
      ∙ c.self.view_is))

pub invariant_of-self : goal.invariant_of-self
invariant_of-self c = record {
  whole = subst (λ (s : Standing). IsWhole c.self.inside.config c.self.inside.clock (set c.self.inside.tenants.items c.args.tenant s) c.leave.new.finished.entries) (sym c.leave.ensures.same)
      (whole_behind c.self.inside.tenants.items c.self.inside.finished.entries c.leave.new.finished.entries c.args.tenant c.index_mut-tenant.result.now c.carry_out-reply.new.self c.self.invariant.whole (among c) (here c)
      c.carry_out-reply.ensures.tenancy c.carry_out-reply.ensures.next_tick c.known.ensures.row c.known.ensures.binds c.carry_out-reply.ensures.ended c.carry_out-reply.ensures.active c.leave.ensures.entries);
  places = c.self.invariant.places;
}

pub returns-clause-reply : goal.returns-clause-reply
returns-clause-reply c = λ given setting state stands.
    let host : HostStanding = standing c.self.inside in
    let inside : Stands setting host state = stands_inside setting host state (subst (λ h. Stands setting h state) (sym c.self.view_is) stands) in
    (own_outcome setting host state c.args.tenant c.args.prepared c.index_mut-tenant.result.now c.carry_out-reply.new.self c.carry_out-reply.result inside (within c) c.self.invariant.whole.tenancies
    c.index_mut-tenant.ensures.value c.carry_out-reply.ensures.step given).same_reply

pub returns-clause-step : goal.returns-clause-step
returns-clause-step c = λ given setting state stands.
    let host : HostStanding = standing c.self.inside in
    let behind : HostStanding = record host { tenants = set host.tenants c.args.tenant (without_ended c.carry_out-reply.new.self); entries = c.leave.new.finished.entries } in
    let inside : Stands setting host state = stands_inside setting host state (subst (λ h. Stands setting h state) (sym c.self.view_is) stands) in
    let outcome = own_outcome setting host state c.args.tenant c.args.prepared c.index_mut-tenant.result.now c.carry_out-reply.new.self c.carry_out-reply.result inside (within c) c.self.invariant.whole.tenancies
    c.index_mut-tenant.ensures.value c.carry_out-reply.ensures.step given in
    let count = c.carry_out-reply.ensures.next_tick ∙ ap (λ (s : Standing). s.row.next_tick) (here c) ∙ (c.self.invariant.whole.known c.args.tenant no_tenant (among c)).0 in
    let place = ap (λ (y : Tenancy). y.owner.place) (c.carry_out-reply.ensures.tenancy ∙ ap (λ (s : Standing). s.tenancy) (here c)) ∙ c.self.invariant.whole.placed c.args.tenant (among c) in
    let still = command_still c.self.inside.tenants.items c.self.inside.finished.entries c.leave.new.finished.entries c.args.tenant c.index_mut-tenant.result.now c.carry_out-reply.new.self c.self.invariant.whole (among c) (here c)
    c.carry_out-reply.ensures.tenancy c.carry_out-reply.ensures.next_tick c.known.ensures.row c.known.ensures.binds c.carry_out-reply.ensures.ended c.carry_out-reply.ensures.active c.leave.ensures.entries in
    subst (λ (s : Standing). Stands setting (record behind { tenants = map at_rest (set host.tenants c.args.tenant s) }) (after_event setting state (Own c.args.tenant c.args.prepared))) (sym c.leave.ensures.same)
    (stands_outside setting behind (after_event setting state (Own c.args.tenant c.args.prepared))
    (stands_after_command setting host state c.args.tenant c.args.prepared (without_ended c.carry_out-reply.new.self) c.leave.new.finished.entries inside
    (subst (λ (k : Rig). c.args.tenant < length k.tenants) inside.same_config (within c)) outcome.stands count place c.self.invariant.whole.placed still))

pub returns-clause-outstanding : goal.returns-clause-outstanding
returns-clause-outstanding c =
    let tenants = c.self.inside.tenants.items in
    let before = c.self.inside.finished.entries in
    let after = c.leave.new.finished.entries in
    omega (
      arith,
      ap outstanding_count (sym c.self.view_is),
      ap length (outstanding_at_rest before tenants),
      ap length (outstanding_at_rest after (set tenants c.args.tenant c.leave.new.self)),
      ap (λ (s : Standing). length (outstanding_from after 0 (set tenants c.args.tenant s))) c.leave.ensures.same,
      outstanding_behind tenants before after c.args.tenant c.index_mut-tenant.result.now c.carry_out-reply.new.self c.self.invariant.whole (among c) (here c)
          c.carry_out-reply.ensures.tenancy c.carry_out-reply.ensures.next_tick c.known.ensures.row c.known.ensures.binds c.carry_out-reply.ensures.ended c.carry_out-reply.ensures.active c.leave.ensures.entries,
    )

pub returns-clause-room : goal.returns-clause-room
returns-clause-room c = λ none.
    c.carry_out-reply.ensures.room
    (ap (λ (s : Standing). takes_memory s.tenancy.owner c.args.prepared s.row) (sym (here_at_rest (standing c.self.inside) c.args.self.now c.args.tenant c.index_mut-tenant.result.now c.self.view_is (among c) c.index_mut-tenant.ensures.value)) ∙ none)

pub returns-clause-listed : goal.returns-clause-listed
returns-clause-listed c = λ listed. same_behind c (listed_leaves (old_of c) (new_of c) c.args.prepared c.carry_out-reply.result c.carry_out-reply.ensures.memory listed)

pub returns-clause-asked : goal.returns-clause-asked
returns-clause-asked c = λ question. same_behind c (asked_leaves (old_of c) (new_of c) c.args.prepared c.carry_out-reply.result c.carry_out-reply.ensures.memory question)

pub returns-clause-unchanged : goal.returns-clause-unchanged
returns-clause-unchanged c = λ leaves.
    let here_of = here_at_rest (standing c.self.inside) c.args.self.now c.args.tenant c.index_mut-tenant.result.now c.self.view_is (among c) c.index_mut-tenant.ensures.value in
    same_behind c (λ other same. subst (λ (s : Standing). LeavesRow s c.args.prepared) here_of leaves, c.carry_out-reply.ensures.memory)
