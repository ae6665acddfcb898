use Rattle.std.proofs.Common.{◌++◌, ◌∙◌, List, ℕ, ap, map, refl, sym, string_bytes}
use Rattle.std.proofs.lemmas.List.{map-append}
use Rattle.config_checks.proofs.Noting.{Told}
use Rattle.config_checks.specs.Notes.{as_note, notes_on}
use Rattle.config_checks.specs.Plants.{unfed_on}
use Rattle.config_checks.specs.Summaries.{summary_of}
use Rattle.config_checks.proofs.good.Goals as goal

pub returns : goal.returns
returns c =
    let shown = string_bytes c.in_ok-shown.field-0 in
    let config = c.args.config.now in
    let plant = c.args.plant.now in
    let notes = c.in_ok-add_plant_notes.ensures
    ∙ (ap (λ (ns : List Told). ns ++ map as_note (unfed_on config plant)) c.in_ok-notes.ensures ∙ sym (map-append as_note (notes_on config) (unfed_on config plant))) in
    let told = c.in_ok-push_str.ensures.bytes
    ∙ (ap (λ (t : List ℕ). t ++ c.as_str.result.now) c.in_ok-told.ensures ∙ ap (λ (t : List ℕ). summary_of c.args.file.now config ++ t) c.as_str.ensures.value) in
    rw (c.requires.config, c.requires.plant) (refl, (c.add_plant_notes.new.notes.items, shown, notes, rw c.deref.ensures.value at c.in_ok-shown.ensures, told))
