use Rattle.std.proofs.Common.{◌≡◌, None, Some, ap, sym, ◌∙◌}
use Rattle.rig_model.specs.LineValues.{line_value}
use Rattle.rig_model.specs.Row.{actuator_value}
use Rattle.tenant_state.specs.Standing.{Standing}
use Rattle.tenant_state.proofs.Readers.{line_named, named_driver}
use Rattle.tenant_state.proofs.tenants.Tenant.line.Goals as goal
use Rattle.tenant_state.proofs.tenants.Tenant.line.Goals.{After-actuator}

pub returns-in_err-name : goal.returns-in_err-name
returns-in_err-name c =
    let s = c.args.self.now in
    let are = rw c.program.ensures.tree at c.actuators.ensures in
    let program : s.row.program ≡ Some c.in-Some.checked = ap (λ (t : Standing). t.row.program) (sym c.self.view_is) ∙ c.in-Some.is in
    c.from_residual.ensures ∙ sym (line_named s.row c.in-Some.checked program c.args.line None (named_driver c.in-Some.checked c.args.line c.actuators.result.now are ∙ sym c.in_err-name.ensures))

-- the line's value is that of this actuator
driven : (c : After-actuator) → actuator_value c.args.self.now.row c.in_ok-name.name ≡ line_value c.args.self.now.row c.args.line
driven c =
    let s = c.args.self.now in
    let are = rw c.program.ensures.tree at c.actuators.ensures in
    let program : s.row.program ≡ Some c.in-Some.checked = ap (λ (t : Standing). t.row.program) (sym c.self.view_is) ∙ c.in-Some.is in
    sym (line_named s.row c.in-Some.checked program c.args.line (Some c.in_ok-name.name) (named_driver c.in-Some.checked c.args.line c.actuators.result.now are ∙ sym c.in_ok-name.ensures))

pub returns : goal.returns
returns c = c.actuator.ensures ∙ driven (goal.at.returns c).After-actuator
