use Rattle.std.proofs.Common.{◌≡◌, ℕ, ℤ, List, Bor, Option, Some, sym, ap, ◌∙◌}
use Rattle.std.specs.Prelude.{slice_get}
use Rattle.std.specs.Option.{option_and_then, option_map}
use Rattle.giotto_tasks.specs.declared.names.Name.{Name}
use Rattle.giotto_tasks.specs.Names.{value_at}
use Rattle.rig_model.specs.text.Program.{GiottoProgram}
use Rattle.giotto_check.specs.cited.Facts.{ProgramFits}
use Rattle.giotto_check.specs.Slots.{port_names, valuation_of}
use Rattle.rig_model.specs.rules.Ports.{shown_name, slot_of}
use Rattle.giotto_check.proofs.cited.SlotLemmas.{name_at_slot}
use Rattle.giotto_check.proofs.cited.Valuations.{value_at_place}
use Rattle.rig_model.specs.Ports.{value_of_port}
use Rattle.tenant_slots.proofs.ReadLines.{copied_at}
use Rattle.tenant_slots.proofs.names.port_value.Goals as goal

-- the value of a port is at its slot
value_there : (p : GiottoProgram) → ProgramFits p → (values : List ℤ) (task : Option Name) (x : Name) (k : ℕ) → slot_of p task x ≡ Some k
    → value_of_port p (valuation_of p values) task x ≡ slice_get values k
value_there p fits values task x k at =
    let shown = shown_name (record { task = task; name = x }) in
    ap (option_and_then (λ slot. value_at (valuation_of p values) shown)) at ∙ value_at_place (port_names p) values k shown fits.ports_once (name_at_slot p task x k at)

pub returns : goal.returns
returns c =
    let p = c.args.program.now in
    let task = option_map {T = Bor (List ℕ)} {U = List ℕ} (λ t. t.now) c.args.task in
    c.copied.ensures ∙ copied_at c.args.values.now c.in_ok-slot.slot c.get.result c.get.ensures.lookup
    ∙ sym (value_there p c.known.ensures.fits c.args.values.now task c.args.name.now c.in_ok-slot.slot (sym c.in_ok-slot.ensures))
