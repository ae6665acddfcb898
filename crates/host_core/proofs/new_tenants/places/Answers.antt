use Rattle.std.proofs.Common.{length, take, [], ◌∷◌, ap, ◌∙◌, arith, get_or}
use Rattle.std.specs.List.{sum_by}
use Rattle.std.proofs.lemmas.List.{take_all, take_more}
use Rattle.std.proofs.lemmas.List.Sums.{sum_by-append}
use Rattle.rig_model.specs.declared.config.TenantConfig.{TenantConfig}
use Rattle.host_core.proofs.new_tenants.places.Goals as goal

pub loop-bind-init : goal.loop-bind-init
loop-bind-init c = omega arith

pub loop-bind-preserved : goal.loop-bind-preserved
loop-bind-preserved c = omega (arith, c.in_ok-push.ensures.len, ap length c.in_ok-push.ensures.items, c.loop-bind.invariant)

pub loop-tenant-preserved : goal.loop-tenant-preserved
loop-tenant-preserved c =
    let items = c.tenants-tenant-items.result.now in
    let i = c.loop-tenant.tenant-index in
    let one = c.tenant-item.result in
    let more = ap (sum_by (λ (tenant : TenantConfig). tenant.budgets.binds)) (take_more items i one c.loop-tenant-test.true)
    ∙ sum_by-append (λ (tenant : TenantConfig). tenant.budgets.binds) (take i items) (get_or items i one ∷ []) in
    omega (arith, more, ap (λ (tenant : TenantConfig). tenant.budgets.binds) c.tenant-item.is, c.loop-bind.invariant, c.loop-tenant.invariant, c.loop-bind-test.false, c.loop-bind.auto._bind-end)

pub returns : goal.returns
returns c =
    c.loop-tenant.invariant
    ∙ ap (sum_by (λ (tenant : TenantConfig). tenant.budgets.binds))
    (take_all c.loop-tenant.tenant-index c.tenants-tenant-items.result.now (omega (arith, c.loop-tenant-test.false)) ∙ c.tenants-tenant-items.ensures.value)
