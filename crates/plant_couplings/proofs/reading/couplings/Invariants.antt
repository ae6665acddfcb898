use Rattle.std.proofs.Common.{◌≡◌, drop}
use Rattle.toml.specs.View.{items_view}
use Rattle.plant_couplings.specs.Reading.{couplings_from}
use Rattle.plant_couplings.proofs.Tables.{behind}
use Rattle.plant_couplings.proofs.reading.couplings.Given as goal

abbrev pub invariant-loop-place : goal.invariant-loop-place
invariant-loop-place l = behind l.couplings.items (couplings_from l.lines l.place (items_view (drop l.place l.tables))) ≡ couplings_from l.lines 0 (items_view l.tables)
