use Rattle.std.proofs.Common.{◌+◌, length, ap, sym, ◌∙◌}
use Rattle.giotto_tasks.specs.Syntax.{TaskBody}
use Rattle.giotto_rules.specs.text.ProgramTrees.{task_of}
use Rattle.giotto_rules.proofs.cited.ProgramParts.{names_of_states}
use Rattle.giotto_check.proofs.cited.SlotLemmas.{ports_long}
use Rattle.giotto_check.proofs.slots.own_slots.Goals as goal

pub returns : goal.returns
returns c =
    let d = c.args.declared.now in
    let body = c.body.view_is ∙ c.deref-body.ensures in
    let inputs = c.as_slice.ensures ∙ ap (λ (b : TaskBody). b.inputs) body in
    let states = c.as_slice-2.ensures ∙ ap (λ (b : TaskBody). b.states) body ∙ sym (names_of_states d) in
    ap (λ xs. length xs + length c.as_slice-2.result.now) inputs ∙ ap (λ xs. length (task_of d).inputs + length xs) states ∙ sym (ports_long (task_of d))
