use Rattle.std.proofs.Common.{◌≡◌, length, drop}
use Rattle.std.specs.Prelude.{IsTrue}
use Rattle.std.specs.List.{list_all}
use Rattle.toml.specs.View.{items_view}
use Rattle.rig_config.specs.Ranges.{is_tenant_config}
use Rattle.rig_config.specs.Reading.{tenants_from}
use Rattle.rig_config.proofs.Tenants.{behind}
use Rattle.rig_config.proofs.reading.tenants.Given as goal

abbrev pub invariant-loop-place : goal.invariant-loop-place
invariant-loop-place l =
    (behind l.tenants.items (tenants_from l.version l.lines l.place (items_view (drop l.place l.tables))) ≡ tenants_from l.version l.lines 0 (items_view l.tables))
    × IsTrue (list_all (is_tenant_config l.lines) l.tenants.items)
    × (length l.tenants.items ≡ l.place)
