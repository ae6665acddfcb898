use Rattle.std.proofs.Common.{◌≡◌, [], ◌∷◌, ◌++◌, get_or, map, sym, ap, ◌∙◌, arith}
use Rattle.std.proofs.lemmas.List.{get_or-map, length-map, take_more}
use Rattle.giotto_tasks.specs.declared.names.Name.{Name}
use Rattle.rig_model.specs.declared.config.TenantConfig.{TenantConfig}
use Rattle.host_core.proofs.new_tenants.roster.Goals as goal

pub loop-tenant-preserved : goal.loop-tenant-preserved
loop-tenant-preserved c =
    let items = c.tenants-tenant-items.result.now in
    let i = c.loop-tenant.tenant-index in
    let name : TenantConfig → Name = λ tenant. tenant.name in
    let here : c.copy.result ≡ get_or (map name items) i c.copy.result =
    c.copy.ensures ∙ ap name c.tenant-item.is ∙ sym (get_or-map name items i c.tenant-item.result c.copy.result c.loop-tenant-test.true) in
    c.push.ensures.items
    ∙ (λ k. c.loop-tenant.invariant k ++ here k ∷ [])
    ∙ sym (take_more (map name items) i c.copy.result (omega (arith, length-map items name, c.loop-tenant-test.true)))
