use Rattle.std.proofs.Common.{◌<◌, ◌∙◌, length, ap, subst, sym}
use Rattle.host_core.specs.HostStanding.{HostStanding}
use Rattle.host_core.proofs.AtRest.{standing}
use Rattle.rig_model.specs.Row.{Row}
use Rattle.host_core.proofs.HostRows.{here_row, same_row}
use Rattle.host_core.proofs.hosts.Host.bind_count.Goals as goal

pub returns-clause-count : goal.returns-clause-count
returns-clause-count c =
    let known : c.args.tenant < length c.self.inside.config.tenants = subst (λ (h : HostStanding). c.args.tenant < length h.config.tenants) (sym c.self.view_is) c.requires in
    let within : c.args.tenant < length c.self.inside.tenants.items = subst (λ n. c.args.tenant < n) (sym c.self.invariant.whole.as_many) known in
    c.bind_count.ensures ∙ ap (λ (row : Row). length row.binds) (here_row (standing c.self.inside) c.args.self.now c.args.tenant c.index.result.now c.self.view_is within c.index.ensures)

pub returns-clause-rows : goal.returns-clause-rows
returns-clause-rows c = λ setting state stands.
    returns-clause-count c ∙ ap (λ (row : Row). length row.binds) (same_row setting c.args.self.now state stands c.args.tenant c.requires)
