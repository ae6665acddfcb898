use Rattle.std.proofs.Common.{◌≡◌, Err, refl, sym, ap, ◌∙◌}
use Rattle.rig_model.specs.lines.CommandLine.{command_of_line}
use Rattle.rig_model.specs.Sessions.{says, stranger, tenant}
use Rattle.rig_sessions.specs.inner.Steps.{SessionValue, state_of}
use Rattle.rig_sessions.proofs.SessionLines.{form_unasked, text_found_no_memory}
use Rattle.rig_sessions.proofs.sessions.Session.command.Goals as goal

pub returns-in-Stranger-clause-step : goal.returns-in-Stranger-clause-step
returns-in-Stranger-clause-step c =
    let speaks : c.args.self.now.state ≡ stranger = sym (ap (λ (v : SessionValue). v.state) c.self.view_is) ∙ ap state_of c.in-Stranger.is in
    (rw speaks (form_unasked c.args.self.now.config (command_of_line c.args.line.now) ∙ ap (λ reply. says reply stranger) (sym c.unasked.ensures)), refl)

pub returns-in-Err-Memory-clause-memory : goal.returns-in-Err-Memory-clause-memory
returns-in-Err-Memory-clause-memory c is =
    let speaks : c.args.self.now.state ≡ tenant c.in-Tenant.tenant = sym (ap (λ (v : SessionValue). v.state) c.self.view_is) ∙ ap state_of c.in-Tenant.is in
    rw speaks (text_found_no_memory c.args.self.now.config c.in-Tenant.tenant (command_of_line c.args.line.now) (c.command_of.ensures.memory (c.in-Err-Memory.is ∙ ap (λ f. Err f) c.in-Err-Memory.field-0-is)))
