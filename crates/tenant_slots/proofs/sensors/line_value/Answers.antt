use Rattle.std.proofs.Common.{ap, sym, ◌∙◌}
use Rattle.rig_model.specs.config.Roster.{may_use}
use Rattle.tenant_slots.proofs.ReadLines.{reading_in_frame, no_reading, contained, copied_at}
use Rattle.tenant_slots.proofs.sensors.line_value.Goals as goal

pub returns-then-not-contains : goal.returns-then-not-contains
returns-then-not-contains c =
    let reads = c.args.budgets.now.reads in
    let same = c.contains.ensures.value ∙ contained c.as_slice.result.now c.args.line ∙ ap (λ xs. may_use xs c.args.line) c.as_slice.ensures in
    sym (no_reading reads c.args.frame.now c.args.line (sym same ∙ c.if-not-contains.true))

pub returns : goal.returns
returns c =
    let reads = c.args.budgets.now.reads in
    let same = c.contains.ensures.value ∙ contained c.as_slice.result.now c.args.line ∙ ap (λ xs. may_use xs c.args.line) c.as_slice.ensures in
    c.copied.ensures ∙ copied_at c.args.frame.now c.args.line c.get.result c.get.ensures.lookup
    ∙ sym (reading_in_frame reads c.args.frame.now c.args.line (sym same ∙ c.if-not-contains.false))
