use Rattle.tenant_state.proofs.SameTenants.{values_same}
use Rattle.tenant_state.proofs.tenants.same.same_values.Goals as goal

pub returns : goal.returns
returns c =
    let same = values_same c.args.one.now c.args.other.now c.args.values.now c.args.others.now c.requires.same c.requires.values c.requires.others in
    (λ h. same.0 (c.all_same.ensures.0 h), λ e. c.all_same.ensures.1 (same.1 e))
