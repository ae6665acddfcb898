use Rattle.std.proofs.Common.{◌∙◌, sym}
use Rattle.tenant_state.proofs.AwaitedTasks.{none_has}
use Rattle.tenant_state.proofs.Readers.{job_active}
use Rattle.tenant_state.proofs.tenants.Tenant.is_active.Goals as goal

pub returns-then-id-own : goal.returns-then-id-own
returns-then-id-own c = rw (← c.self.view_is) (sym (none_has c.self.inside.grants.owner.place c.args.id.now (rw c.own.ensures.place at c.if-id-own.true) _))

pub returns : goal.returns
returns c =
    rw (← c.self.view_is, c.in-Some.is)
    (rw (c.as_slice.ensures) at c.has_release.ensures ∙ job_active c.in-Some.checked c.self.inside.grants.owner.place c.args.id.now (rw c.own.ensures.place at c.if-id-own.false) c.self.inside.active.items)
