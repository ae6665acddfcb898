use Rattle.std.proofs.Common.{◌≡◌, ◌≢◌, ◌<◌, ◌∙◌, ◌&&◌, ℤ, Bool, true, false, List, length, set, Result, Ok, Err, refl, ap, subst, sym}
use Rattle.std.specs.Prelude.{IfErr, IfOk}
use Rattle.std.proofs.lemmas.List.{get_or_default, set-get_or}
use Rattle.rig_model.specs.config.Roster.{Rig}
use Rattle.rig_model.specs.Base.{Setting}
use Rattle.rig_model.specs.Commands.{commanded, show_port}
use Rattle.rig_model.specs.Host.{after_event}
use Rattle.rig_model.specs.HostState.{HostState, row_at}
use Rattle.rig_model.specs.Row.{Row}
use Rattle.rig_model.specs.Views.{after_command}
use Rattle.rig_model.specs.declared.events.Event.TheVariants.{Own}
use Rattle.rig_model.specs.declared.jobs.JobId.{JobId}
use Rattle.instant_engine.specs.Tenants.{tenant_at}
use Rattle.instant_engine.specs.cited.Tenants.{is_active_among}
use Rattle.instant_engine.specs.job_table.Finished.{TableEntry, has_result}
use Rattle.instant_engine.specs.job_table.cited.Finished.{is_entered}
use Rattle.rig_model.specs.declared.lines.commands.Command.TheVariants.{ShowPort}
use Rattle.rig_model.specs.declared.lines.ports.PortName.{PortName}
use Rattle.rig_model.specs.declared.lines.replies.Refusal.{Refusal}
use Rattle.rig_model.specs.declared.lines.replies.Refusal.TheVariants.{Memory}
use Rattle.rig_model.specs.declared.lines.replies.Reply.TheVariants.{Port, Refused}
use Rattle.instant_engine.specs.state.Standing.{Standing, StandsFor, no_tenant}
use Rattle.instant_engine.specs.state.cited.Standing.{IsOutcome, IsRefused}
use Rattle.host_core.specs.HostStanding.{HostStanding, Stands}
use Rattle.host_core.specs.Questions.{reply_of_port}
use Rattle.host_core.proofs.AtRest.{standing, stands_inside, stands_outside}
use Rattle.host_core.proofs.HostTables.{entered_of_result}
use Rattle.host_core.proofs.HostSteps.{AreResultsStill, own_outcome, stands_after_command}
use Rattle.host_core.proofs.hosts.Host.port_value.Goals as goal
use Rattle.host_core.proofs.hosts.Host.port_value.Goals.{After-port_value}

-- no reply is `err memory`
not_memory : (port : PortName) (r : Result ℤ Refusal) → r ≢ Err Memory → reply_of_port port r ≢ Refused Memory
not_memory port (Ok z) other e = absurd (cc)
not_memory port (Err why) other e = other (let same : why ≡ Memory = cc in ap (λ w. Err w) same)

-- only active tasks have results
all_still : (tenants : List Standing) (entries : List TableEntry) → ((j : JobId) → is_entered entries j ≡ is_active_among tenants j) → AreResultsStill tenants entries entries
all_still tenants entries entered j = by (has_result entries j) refl
  where
    none : (b : Bool) → (b && false) ≡ false
    none true = refl
    none false = refl

    by : (b : Bool) → has_result entries j ≡ b → has_result entries j ≡ (is_active_among tenants j && has_result entries j)
    by true e = rw (sym (entered j) ∙ entered_of_result entries j e) refl
    by false e = e ∙ sym (ap (λ b. is_active_among tenants j && b) e ∙ none (is_active_among tenants j))

-- what was found is the command's answer, and the tenant represents what it did before
answered : (s : Standing) (port : PortName) (r : Result ℤ Refusal)
    → IfErr r (λ why. IsRefused s (λ row. show_port port row row.program) why)
    → IfOk r (λ z. (row : Row) → StandsFor s row → show_port port row row.program ≡ record { row = row; reply = Port (record { port = port; value = z }) })
    → (row : Row) → StandsFor s row → IsOutcome (commanded s.tenancy (ShowPort port) row) (reply_of_port port r) s
answered s port (Ok z) refused shown row stands = subst (λ o. IsOutcome o (reply_of_port port (Ok z)) s) (sym (shown row stands)) (record { same_reply = refl; stands = stands })
answered s port (Err why) refused shown row stands = subst (λ o. IsOutcome o (reply_of_port port (Err why)) s) (sym (refused row stands)) (record { same_reply = refl; stands = stands })

module _ (c : After-port_value) where
  abbrev host : HostStanding
  host = standing c.self.inside

  abbrev tenant : Standing
  tenant = c.index.result.now

  -- the tenant that is asked is one of the host's
  within : c.args.tenant < length host.config.tenants
  within = subst (λ (h : HostStanding). c.args.tenant < length h.config.tenants) (sym c.self.view_is) c.requires

  among : c.args.tenant < length host.tenants
  among = subst (λ n. c.args.tenant < n) (sym c.self.invariant.whole.as_many) within

  here : tenant ≡ tenant_at host.tenants c.args.tenant
  here = c.index.ensures ∙ get_or_default host.tenants c.args.tenant tenant no_tenant among

  own : set host.tenants c.args.tenant tenant ≡ host.tenants
  own = ap (set host.tenants c.args.tenant) here ∙ set-get_or host.tenants c.args.tenant no_tenant

  module _ (setting : Setting) (state : HostState) (stands : Stands setting c.args.self.now state) where
    inside : Stands setting host state
    inside = stands_inside setting host state (subst (λ h. Stands setting h state) (sym c.self.view_is) stands)

    outcome : IsOutcome (after_command setting c.args.tenant (ShowPort c.args.port.now) (row_at state c.args.tenant)) (reply_of_port c.args.port.now c.port_value.result) tenant
    outcome = own_outcome setting host state c.args.tenant (ShowPort c.args.port.now) tenant tenant (reply_of_port c.args.port.now c.port_value.result) inside within c.self.invariant.whole.tenancies c.index.ensures
        (λ row is given. answered tenant c.args.port.now c.port_value.result c.port_value.ensures.refused c.port_value.ensures.shown row is)
        (not_memory c.args.port.now c.port_value.result c.port_value.ensures.room)

    behind : Stands setting host (after_event setting state (Own c.args.tenant (ShowPort c.args.port.now)))
    behind =
        let event = Own c.args.tenant (ShowPort c.args.port.now) in
        let count = ap (λ (s : Standing). s.row.next_tick) here ∙ (c.self.invariant.whole.known c.args.tenant no_tenant among).0 in
        let place = ap (λ (s : Standing). s.tenancy.owner.place) here ∙ c.self.invariant.whole.placed c.args.tenant among in
        let still : AreResultsStill (set host.tenants c.args.tenant tenant) host.entries host.entries =
        subst (λ (ts : List Standing). AreResultsStill ts host.entries host.entries) (sym own) (all_still host.tenants host.entries c.self.invariant.whole.table.entered) in
        subst (λ (ts : List Standing). Stands setting (record host { tenants = ts }) (after_event setting state event)) own
        (stands_after_command setting host state c.args.tenant (ShowPort c.args.port.now) tenant host.entries inside
        (subst (λ (k : Rig). c.args.tenant < length k.tenants) inside.same_config within) outcome.stands count place c.self.invariant.whole.placed still)

pub returns-clause-reply : goal.returns-clause-reply
returns-clause-reply c = λ setting state stands. (outcome c setting state stands).same_reply

pub returns-clause-step : goal.returns-clause-step
returns-clause-step c = λ setting state stands.
    subst (λ h. Stands setting h (after_event setting state (Own c.args.tenant (ShowPort c.args.port.now)))) c.self.view_is
    (stands_outside setting (host c) (after_event setting state (Own c.args.tenant (ShowPort c.args.port.now))) (behind c setting state stands))
