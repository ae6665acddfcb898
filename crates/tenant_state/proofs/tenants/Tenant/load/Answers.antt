use Rattle.std.proofs.Common.{length, refl, ap, ◌∙◌}
use Rattle.rig_model.specs.Commands.{load_read}
use Rattle.tenant_state.proofs.tenants.Tenant.load.Goals as goal

pub returns-in-Ok-clause-loaded : goal.returns-in-Ok-clause-loaded
returns-in-Ok-clause-loaded c = λ row stands.
    rw (ap (load_read c.args.self.now.tenancy.budgets (length c.args.text.now) row) c.in_ok-program.ensures.read ∙ c.in-Ok.ensures.loaded row stands)
    (record { same_reply = refl; stands = c.install.ensures.step row stands })
