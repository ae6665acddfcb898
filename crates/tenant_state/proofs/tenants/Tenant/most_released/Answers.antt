use Rattle.std.proofs.Common.{◌≡◌, is_some, slice_get, sym, ap, ◌∙◌}
use Rattle.rig_model.specs.text.Program.{ModeDeclaration}
use Rattle.rig_model.specs.Row.{is_running, is_running_state}
use Rattle.tenant_state.specs.Tenants.{state_of}
use Rattle.tenant_state.specs.Standing.{Standing, most_released}
use Rattle.tenant_state.proofs.EndedTasks.{some_of}
use Rattle.tenant_state.proofs.Replaced.{most_installed}
use Rattle.tenant_state.proofs.Shares.{most_due, none_due}
use Rattle.tenant_state.proofs.tenants.Tenant.most_released.Goals as goal

pub returns-in-Some-installs : goal.returns-in-Some-installs
returns-in-Some-installs c =
    let row = c.args.self.now.row in
    let new = c.in-Some-installs.waiting.now.program in
    let start = some_of {P = λ (m : ModeDeclaration). m.name ≡ new.start} (slice_get new.modes c.start_place.result) c.start_place.ensures in
    let runs = ap (λ (s : Standing). is_running s.row) (sym c.self.view_is) ∙ ap (λ s. is_running_state (state_of s)) c.in-Running.is in
    let loaded = ap (λ (s : Standing). is_some s.row.program) (sym c.self.view_is) ∙ ap is_some c.in-Some.is in
    c.most_at.ensures start.0 start.1
    ∙ most_installed new c.known-in-Some-installs.ensures.fits row runs loaded c.in-Some-installs.ensures.due.0 c.in-Some-installs.ensures.due.1 c.start_place.result start.0 start.1 start.2

pub returns-then-self : goal.returns-then-self
returns-then-self c =
    let settled = rw (← c.self.view_is) at c.in_default-installs.ensures.none in
    none_due c.self.inside.grants c.self.inside.waiting c.self.inside.trace _ _ _ _ _ _ _ _ _ _ 0 _ c.self.invariant.0 c.in-Running.is c.in-Some.is c.known.ensures.fits settled c.if-self.true
    ∙ ap (λ (s : Standing). most_released s.row) c.self.view_is

pub returns : goal.returns
returns c =
    let settled = rw (← c.self.view_is) at c.in_default-installs.ensures.none in
    most_due c.self.inside.grants c.self.inside.waiting c.self.inside.trace _ _ _ _ _ _ _ _ _ _ 0 _ c.self.invariant.0 c.in-Running.is c.in-Some.is c.known.ensures.fits settled c.most_at-2.result c.most_at-2.ensures
    ∙ ap (λ (s : Standing). most_released s.row) c.self.view_is
