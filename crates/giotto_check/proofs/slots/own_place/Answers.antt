use Rattle.std.proofs.Common.{◌≡◌, Bool, true, false, not, Some, None, ap, sym, refl, arith, ◌∙◌}
use Rattle.std.specs.List.{position_from}
use Rattle.giotto_tasks.specs.declared.names.Name.{Name}
use Rattle.giotto_tasks.specs.Names.{same_name}
use Rattle.giotto_tasks.specs.Syntax.{TaskBody}
use Rattle.giotto_rules.specs.text.ProgramTrees.{task_of}
use Rattle.giotto_rules.proofs.cited.ProgramParts.{names_of_states}
use Rattle.giotto_check.proofs.cited.PlaceLemmas.{place_within}
use Rattle.giotto_check.proofs.cited.SlotLemmas.{other_task, own_inputs, own_states}
use Rattle.giotto_check.proofs.slots.own_place.Goals as goal

told : (x y t : Name) (r b : Bool) → r ≡ not (same_name x t) → x ≡ y → r ≡ not b → same_name y t ≡ b
told x y t r b e same is = by (same_name y t) b (ap (λ z. not (same_name z t)) (sym same) ∙ sym e ∙ is)
  where
    by : (a b : Bool) → not a ≡ not b → a ≡ b
    by true true h = refl
    by true false h = sym h
    by false true h = sym h
    by false false h = refl

pub returns-then-ne : goal.returns-then-ne
returns-then-ne c =
    let d = c.args.declared.now in
    let t = c.args.task.now in
    let other = told c.as_str.result.now d.name t c.ne.result false c.ne.ensures c.as_str.ensures c.if-ne.true in
    sym (other_task t c.args.name.now 0 (task_of d) other)

pub overflow_add-result : goal.overflow_add-result
overflow_add-result c =
    let x = c.args.name.now in
    omega (arith, place_within (λ (n : Name). same_name n x) 0 c.as_slice.result.now c.in-Some-place.place (sym c.place-in-None.ensures ∙ c.in-Some-place.is))

pub returns-in-Some : goal.returns-in-Some
returns-in-Some c =
    let d = c.args.declared.now in
    let t = c.args.task.now in
    let x = c.args.name.now in
    let this = told c.as_str.result.now d.name t c.ne.result true c.ne.ensures c.as_str.ensures c.if-ne.false in
    let inputs = c.as_slice-inputs.ensures ∙ ap (λ (b : TaskBody). b.inputs) (c.body.view_is ∙ c.deref-body.ensures) in
    sym (own_inputs t x (task_of d) c.in-Some.place this (sym (ap (position_from (λ (n : Name). same_name n x) 0) inputs) ∙ sym c.place.ensures ∙ c.in-Some.is))

pub returns-in-Some-place : goal.returns-in-Some-place
returns-in-Some-place c =
    let d = c.args.declared.now in
    let t = c.args.task.now in
    let x = c.args.name.now in
    let test = λ (n : Name). same_name n x in
    let this = told c.as_str.result.now d.name t c.ne.result true c.ne.ensures c.as_str.ensures c.if-ne.false in
    let body = c.body.view_is ∙ c.deref-body.ensures in
    let inputs = c.as_slice-inputs.ensures ∙ ap (λ (b : TaskBody). b.inputs) body in
    let states = c.as_slice.ensures ∙ ap (λ (b : TaskBody). b.states) body ∙ sym (names_of_states d) in
    rw inputs
    (sym (own_states t x (task_of d) (Some c.in-Some-place.place) this (sym (ap (position_from test 0) inputs) ∙ sym c.place.ensures ∙ c.in-None.is)
    (sym (ap (position_from test 0) states) ∙ sym c.place-in-None.ensures ∙ c.in-Some-place.is)))

pub returns-in-None-place : goal.returns-in-None-place
returns-in-None-place c =
    let d = c.args.declared.now in
    let t = c.args.task.now in
    let x = c.args.name.now in
    let test = λ (n : Name). same_name n x in
    let this = told c.as_str.result.now d.name t c.ne.result true c.ne.ensures c.as_str.ensures c.if-ne.false in
    let body = c.body.view_is ∙ c.deref-body.ensures in
    let inputs = c.as_slice-inputs.ensures ∙ ap (λ (b : TaskBody). b.inputs) body in
    let states = c.as_slice.ensures ∙ ap (λ (b : TaskBody). b.states) body ∙ sym (names_of_states d) in
    sym (own_states t x (task_of d) None this (sym (ap (position_from test 0) inputs) ∙ sym c.place.ensures ∙ c.in-None.is)
    (sym (ap (position_from test 0) states) ∙ sym c.place-in-None.ensures ∙ c.in-None-place.is))
