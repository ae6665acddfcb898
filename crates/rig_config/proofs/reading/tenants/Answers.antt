use Rattle.std.proofs.Common.{◌≡◌, Some, Ok, ◌∙◌, length-append, ◌++◌, ◌∷◌, []}
use Rattle.std.proofs.lemmas.List.Folds.{list_all-append}
use Rattle.toml.specs.Data.{as_table}
use Rattle.toml.specs.View.{view, table_view}
use Rattle.rig_config.specs.Ranges.{is_tenant_config}
use Rattle.rig_config.specs.Reading.{tenant_of}
use Rattle.rig_config.proofs.Tenants.{next_tenant}
use Rattle.rig_config.proofs.reading.tenants.Goals as goal

pub loop-place-preserved : goal.loop-place-preserved
loop-place-preserved c =
    let table = c.index-tables-place.result in
    let before = c.loop-place.tenants.items in
    let tenant = c.in_ok-tenant.field-0 in
    let fields = table_view c.in-Some.fields.now in
    let is_table : as_table (view table) ≡ Some fields = rw (← c.as_table.ensures, c.in-Some.is) in
    let is_tenant : tenant_of c.args.version c.args.lines c.loop-place.place fields ≡ Ok tenant = c.in_ok-tenant.ensures.value in
    let pushed : c.push.new.self.items ≡ before ++ tenant ∷ [] = rw (c.push.ensures.items, c.in_ok-push.was) in
    let next = next_tenant c.args.version c.args.lines c.loop-place.place before c.args.tables.now table fields tenant c.loop-place-test.true c.index-tables-place.is is_table is_tenant in (
      rw pushed (next ∙ c.loop-place.invariant.0),
      rw (pushed, list_all-append (is_tenant_config c.args.lines) before (tenant ∷ []), c.loop-place.invariant.1, c.in_ok-tenant.ensures.ranges),
      rw (pushed, length-append before (tenant ∷ []), c.loop-place.invariant.2),
    )
