use Rattle.std.proofs.Common.{◌≡◌, ◌+◌, length, sym, ap, ◌∙◌, arith}
use Rattle.instant_engine.specs.job_table.cited.Finished.{result_count}
use Rattle.host_core.specs.HostStanding.{HostStanding, outstanding_from, outstanding_jobs}
use Rattle.host_core.proofs.AtRest.{outstanding_at_rest}
use Rattle.host_core.proofs.OutstandingNumber.{number_is}
use Rattle.host_core.proofs.hosts.Host.outstanding.Goals as goal

pub returns : goal.returns
returns c =
    let tenants = c.self.inside.tenants.items in
    let entries = c.self.inside.finished.entries in
    let whole = c.self.invariant.whole in
    let number : length (outstanding_from entries 0 tenants) + result_count entries ≡ length entries =
    number_is c.self.inside.clock tenants whole.known whole.placed entries c.known.ensures.differ whole.table.entered in
    omega (arith, number, c.entry_count.ensures, c.len.ensures)
    ∙ sym (ap length (outstanding_at_rest entries tenants)) ∙ ap (λ (h : HostStanding). length (outstanding_jobs h)) c.self.view_is
