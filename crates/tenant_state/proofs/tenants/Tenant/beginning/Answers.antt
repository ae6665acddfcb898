use Rattle.std.proofs.Common.{ap, sym, ◌∙◌, Result, Ok, Err}
use Rattle.std.specs.Prelude.{OnOk}
use Rattle.rig_model.specs.Row.{is_running}
use Rattle.tenant_state.specs.Standing.{Standing}
use Rattle.tenant_state.specs.Tenants.{tasks_in}
use Rattle.tenant_state.proofs.Stops.{none_active}
use Rattle.tenant_state.proofs.tenants.Tenant.beginning.Goals as goal

-- what always holds also holds if the result is `Ok`
anyway : {A B P : Type 0} (r : Result A B) → P → OnOk r P
anyway (Ok x) holds = holds
anyway (Err e) holds = tt

pub returns-clause-rests : goal.returns-clause-rests
returns-clause-rests c =
    let s = c.self.inside in
    let none = c.self.invariant.0.rests (ap (λ (t : Standing). is_running t.row) c.self.view_is ∙ sym c.is_running.ensures ∙ c.if-is_running.false) in
    anyway c.beginning_of.result (sym (ap (λ (t : Standing). t.row.active) c.self.view_is) ∙ ap (tasks_in s.program) none ∙ none_active s.program)
