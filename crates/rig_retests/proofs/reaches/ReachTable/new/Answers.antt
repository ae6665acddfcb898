use Rattle.std.proofs.Common.{◌≡◌, ◌<◌, ◌+◌, ℕ, Bool, List, [], ◌∷◌, ◌++◌, length, length-append, nat_lt, true, ap, ◌∙◌, arith}
use Rattle.std.proofs.lemmas.Bool.Decides.{nat_tests}
use Rattle.rig_model.specs.config.Roster.{Rig, is_tenant}
use Rattle.rig_model.specs.declared.config.TenantConfig.{TenantConfig}
use Rattle.rig_retests.specs.Reached.{AreReaching}
use Rattle.rig_retests.proofs.Reaching.{rows_grow}
use Rattle.rig_retests.proofs.reaches.ReachTable.new.Goals as goal

pub loop-tenant-preserved : goal.loop-tenant-preserved
loop-tenant-preserved c =
    let rows = c.loop-tenant.rows.items in
    let row = c.in_ok-marks_of.field-0 in
    let grown = c.in_ok-push.ensures.items in
    let long : length (rows ++ row ∷ []) ≡ c.loop-tenant.tenant + 1 = length-append rows (row ∷ []) ∙ ap (λ n. n + 1) c.loop-tenant.invariant.0 in (
      ap (λ rs. length rs) grown ∙ long,
      λ setting past config table.
          rows_grow (λ (marks : List Bool) (t : ℕ). AreReaching c.args.plant.now t marks setting past) rows c.push.new.self.items row c.loop-tenant.tenant grown c.loop-tenant.invariant.0
          (c.loop-tenant.invariant.1 setting past config table) (c.in_ok-marks_of.ensures.marks setting past config table),
    )

pub returns : goal.returns
returns c = λ setting past config table t tenant.
    let many : length setting.config.tenants ≡ length c.args.config.now.tenants = ap (λ (r : Rig). length r.tenants) config in
    let end = ap (λ (ts : List TenantConfig). length ts) c.tenants-tenant-end.ensures.value in
    let within : t < length setting.config.tenants = grind (arith, nat_tests, tenant) in
    let lt : t < c.loop-tenant.tenant = omega (arith, within, many, c.loop-tenant-test.false, end) in
    c.loop-tenant.invariant.1 setting past config table t lt
