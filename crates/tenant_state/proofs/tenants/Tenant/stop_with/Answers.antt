use Rattle.std.proofs.Common.{None, ◌≡◌, [], ◌∷◌, Some, sym, ap, subst, ◌∙◌, arith}
use Rattle.giotto_tasks.proofs.cited.ListLemmas.{whole_slice}
use Rattle.std.specs.Vec.{with_items}
use Rattle.tenant_slots.specs.well_formed.Slots.{valuation_of}
use Rattle.rig_model.specs.Ports.{actuators_reset}
use Rattle.tenant_state.specs.declared.tenants.State.TheVariants.{Stopped}
use Rattle.tenant_state.specs.Standing.{Standing, with_last}
use Rattle.rig_model.specs.FirstHalf.{happening_of}
use Rattle.rig_model.specs.trace.cited.Noted.{noted}
use Rattle.tenant_state.specs.Tenants.{ports_in, reason_of}
use Rattle.tenant_state.proofs.Stops.{reset_in, row_of, stands_stopped}
use Rattle.tenant_state.proofs.tenants.Tenant.stop_with.Goals as goal

pub returns-in-Some-clause-step : goal.returns-in-Some-clause-step
returns-in-Some-clause-step c = λ row stands.
    let s = c.self.inside in
    let p = c.in-Some.checked in
    let after = with_items s.values c.reset_actuators.new.values in
    let written : after.items ≡ c.reset_actuators.new.values = whole_slice s.values.len c.reset_actuators.new.values s.values.items (omega (arith, c.as_mut_slice.ensures.len, c.reset_actuators.auto.values)) in
    let new = c.reset_actuators.new.values in
    let told : c.note.new.self ≡ noted s.next_tick (happening_of (reason_of c.args.reason) ∷ []) s.trace = c.note.ensures ∙ ap (λ h. noted s.next_tick (h ∷ []) s.trace) c.happening_of.ensures in
    let reset : ports_in (Some p) new ≡ reset_in (Some p) (ports_in (Some p) s.values.items) = c.reset_actuators.ensures ∙ ap (λ vs. actuators_reset p (valuation_of p vs)) c.as_mut_slice.ensures.value in
    (λ k. row_of s.grants (Stopped c.args.reason) s.program s.mode s.mode_time (c.end_all.ensures.items k) (written k) None (told k) s.next_tick)
    ∙ stands_stopped s.grants s.state s.program s.mode s.mode_time s.active.items s.values.items s.waiting s.trace s.next_tick s.budgets.trace row c.args.reason new c.self.invariant.1.same_most
    (ap (λ (t : Standing). t.row) c.self.view_is ∙ stands ∙ ap (λ (t : Standing). with_last t.tenancy.budgets.trace row) (sym c.self.view_is))
    (subst (λ o. ports_in o new ≡ reset_in o (ports_in o s.values.items)) (sym c.in-Some.is) reset)
