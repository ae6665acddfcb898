use Rattle.std.proofs.Common.{◌<◌, ◌∙◌, length, ap, subst, sym}
use Rattle.rig_model.specs.Row.{Row}
use Rattle.host_core.specs.HostStanding.{HostStanding}
use Rattle.host_core.proofs.AtRest.{standing}
use Rattle.host_core.proofs.HostRows.{here_row, same_row}
use Rattle.host_core.proofs.hosts.Host.program.Goals as goal

pub returns-clause-program : goal.returns-clause-program
returns-clause-program c =
    let known : c.args.tenant < length c.self.inside.config.tenants = subst (λ (h : HostStanding). c.args.tenant < length h.config.tenants) (sym c.self.view_is) c.requires in
    let within : c.args.tenant < length c.self.inside.tenants.items = subst (λ n. c.args.tenant < n) (sym c.self.invariant.whole.as_many) known in
    c.program.ensures ∙ ap (λ (row : Row). row.program) (here_row (standing c.self.inside) c.args.self.now c.args.tenant c.index.result.now c.self.view_is within c.index.ensures)

pub returns-clause-rows : goal.returns-clause-rows
returns-clause-rows c = λ setting state stands.
    returns-clause-program c ∙ ap (λ (row : Row). row.program) (same_row setting c.args.self.now state stands c.args.tenant c.requires)
