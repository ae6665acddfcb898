use Rattle.std.proofs.Common.{◌≡◌, Some, Ok, ◌∙◌, ◌++◌, ◌∷◌, []}
use Rattle.toml.specs.Data.{as_table}
use Rattle.toml.specs.View.{view, table_view}
use Rattle.plant_couplings.specs.Reading.{coupling_of}
use Rattle.plant_couplings.proofs.Tables.{next_coupling}
use Rattle.plant_couplings.proofs.reading.couplings.Goals as goal

pub loop-place-preserved : goal.loop-place-preserved
loop-place-preserved c =
    let table = c.index-tables-place.result in
    let before = c.loop-place.couplings.items in
    let one = c.in_ok-coupling.field-0 in
    let fields = table_view c.in-Some.fields.now in
    let is_table : as_table (view table) ≡ Some fields = rw (← c.as_table.ensures, c.in-Some.is) in
    let is_one : coupling_of c.args.lines c.loop-place.place fields ≡ Ok one = c.in_ok-coupling.ensures in
    let pushed : c.push.new.self.items ≡ before ++ one ∷ [] = rw (c.push.ensures.items, c.in_ok-push.was) in
    let next = next_coupling c.args.lines c.loop-place.place before c.args.tables.now table fields one c.loop-place-test.true c.index-tables-place.is is_table is_one in
    rw pushed (next ∙ c.loop-place.invariant)
