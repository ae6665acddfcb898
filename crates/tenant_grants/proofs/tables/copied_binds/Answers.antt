use Rattle.std.proofs.Common.{◌≡◌, [], ◌∷◌, ◌++◌, None, sym, ap, ◌∙◌}
use Rattle.std.specs.Map.{lookup}
use Rattle.indexmap.proofs.CallerLemmas.{insert_entry-new}
use Rattle.giotto_tasks.specs.Names.{same_name}
use Rattle.tenant_grants.specs.declared.tables.Sensor.{Sensor}
use Rattle.tenant_grants.proofs.Copies.{one_more, sensor_absent}
use Rattle.tenant_grants.proofs.tables.copied_binds.Goals as goal

pub loop-i-preserved : goal.loop-i-preserved
loop-i-preserved c =
    let es = c.args.binds.now.entries in
    let i = c.loop-i.i in
    let sensor = c.in-Some.sensor.now in
    let supplier = c.in-Some.supplier.now in
    let there = sym (rw c.in-Some.is at c.get_index.ensures.entry) in
    let none : lookup (λ (s : Sensor). same_name s.name sensor.name) c.loop-i.copies.entries ≡ None =
    ap (lookup (λ (s : Sensor). same_name s.name sensor.name)) c.loop-i.invariant ∙ sensor_absent es i (sensor, supplier) c.requires there in
    rw (c.copy.ensures, c.copy-in-loop-i.ensures) at c.in_ok-insert.ensures.entries
    ∙ insert_entry-new _ c.loop-i.copies sensor supplier none
    ∙ (λ k. c.loop-i.invariant k ++ (sensor, supplier) ∷ [])
    ∙ one_more es i (sensor, supplier) there
