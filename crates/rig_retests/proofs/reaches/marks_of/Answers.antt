use Rattle.std.proofs.Common.{◌≡◌, ◌<◌, ◌++◌, ℕ, Bool, true, false, List, length, drop, take, set, not, filter, refl, sym, ap, ◌∙◌, length-set, arith}
use Rattle.giotto_tasks.proofs.cited.ListLemmas.{whole_slice}
use Rattle.plant_laws.specs.Closed.{is_direct}
use Rattle.rig_model.specs.config.Roster.{Rig}
use Rattle.rig_retests.specs.Reached.{is_marked}
use Rattle.rig_retests.proofs.Reaching.{fewer_unmarked, marks_begin, marks_end, marks_grow}
use Rattle.rig_retests.proofs.reaches.marks_of.Goals as goal

pub loop-source-smaller : goal.loop-source-smaller
loop-source-smaller c =
    let before = c.loop-source.marks.items in
    let new = c.set_mark-in-Some.new.marks in
    let after = take c.loop-source.marks.len (new ++ drop (length new) before) in
    let grown : after ≡ set before c.in-Some.source true =
    whole_slice c.loop-source.marks.len new before (omega (arith, c.as_mut_slice-in-Some.ensures.len, c.set_mark-in-Some.auto.marks))
    ∙ (c.set_mark-in-Some.ensures ∙ ap (λ (ms : List Bool). set ms c.in-Some.source true) c.as_mut_slice-in-Some.ensures.value) in
    let lt : c.in-Some.source < length before = rw c.as_slice.ensures.value at c.in-Some.ensures.within in
    let none : is_marked before c.in-Some.source ≡ false = rw c.as_slice.ensures.value at c.in-Some.ensures.unmarked in
    fewer_unmarked before after c.in-Some.source lt none grown

pub loop-source-preserved : goal.loop-source-preserved
loop-source-preserved c =
    let before = c.loop-source.marks.items in
    let new = c.set_mark-in-Some.new.marks in
    let after = take c.loop-source.marks.len (new ++ drop (length new) before) in
    let grown : after ≡ set before c.in-Some.source true =
    whole_slice c.loop-source.marks.len new before (omega (arith, c.as_mut_slice-in-Some.ensures.len, c.set_mark-in-Some.auto.marks))
    ∙ (c.set_mark-in-Some.ensures ∙ ap (λ (ms : List Bool). set ms c.in-Some.source true) c.as_mut_slice-in-Some.ensures.value) in
    let lt : c.in-Some.source < length before = rw c.as_slice.ensures.value at c.in-Some.ensures.within in (
      ap (λ (ms : List Bool). length ms) grown ∙ (length-set before c.in-Some.source true ∙ c.loop-source.invariant.0),
      λ setting past config table.
          let reaches = c.in-Some.ensures.reaches setting past config table in
          marks_grow setting c.args.plant.now past c.args.tenant before after c.in-Some.source (c.loop-source.invariant.1 setting past config table) lt
          (reaches.0, ap (λ (ms : List Bool). is_marked ms reaches.0) (sym c.as_slice.ensures.value) ∙ reaches.1, reaches.2) grown,
    )

pub returns-clause-marks : goal.returns-clause-marks
returns-clause-marks c = λ setting past config table.
    let marks = c.loop-source.marks.items in
    let long : length marks ≡ length setting.config.tenants = c.loop-source.invariant.0 ∙ sym (ap (λ (r : Rig). length r.tenants) config) in
    let none = c.next_source.ensures.none c.in_default.is setting past config table in
    marks_end setting c.args.plant.now past c.args.tenant (c.sources_are_tenants.ensures setting) marks long (c.loop-source.invariant.1 setting past config table)
    (λ v source lt marked direct.
    let there : source < length c.as_slice.result.now = rw c.as_slice.ensures.value lt in
    ap (λ (ms : List Bool). is_marked ms source) (sym c.as_slice.ensures.value) ∙ none v source there (ap (λ (ms : List Bool). is_marked ms v) c.as_slice.ensures.value ∙ marked) direct)
