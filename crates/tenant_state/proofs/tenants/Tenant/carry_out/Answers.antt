use Rattle.std.proofs.Common.{refl}
use Rattle.tenant_state.proofs.tenants.Tenant.carry_out.Goals as goal

pub returns-in-Ok-start-clause-step : goal.returns-in-Ok-start-clause-step
returns-in-Ok-start-clause-step c = λ row stands other.
    rw (← c.into_parts-command.ensures.command, c.in-Start.is) (c.in-Ok-start.ensures.started c.args.self.now.tenancy row stands)

pub returns-in-Start-clause-step : goal.returns-in-Start-clause-step
returns-in-Start-clause-step c = λ row stands other.
    let why = c.in-Err-start.ensures in
    rw (← c.into_parts-command.ensures.command, c.in-Start.is, why.refused c.args.self.now.tenancy row stands, why.unchanged) (record { same_reply = refl; stands = stands })

pub returns-in-Ok-stop-clause-step : goal.returns-in-Ok-stop-clause-step
returns-in-Ok-stop-clause-step c = λ row stands other.
    rw (← c.into_parts-command.ensures.command, c.in-Stop.is) (c.in-Ok-stop.ensures.stopped c.args.self.now.tenancy row stands)

pub returns-in-Stop-clause-step : goal.returns-in-Stop-clause-step
returns-in-Stop-clause-step c = λ row stands other.
    let why = c.in-Err-stop.ensures in
    rw (← c.into_parts-command.ensures.command, c.in-Stop.is, why.refused c.args.self.now.tenancy row stands, why.unchanged) (record { same_reply = refl; stands = stands })
