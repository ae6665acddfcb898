use Rattle.std.proofs.Common.{◌≡◌, ◌+◌, [], ◌∷◌, ◌++◌, length, length-append, min, drop, w64, to_z, of_z, rules, sym, ap, ◌∙◌, arith}
use Rattle.std.proofs.lemmas.Slice.Zip.{zip_turn, zip_end}
use Rattle.rig_model.specs.trace.cited.Noted.{noted, pushed}
use Rattle.rig_model.specs.declared.trace.records.Happening.TheVariants as happening
use Rattle.rig_model.specs.FirstHalf.{outputs_happened}
use Rattle.tenant_slots.proofs.Recorded.{next_noted, all_noted}
use Rattle.tenant_slots.proofs.tasks.note_outputs.Goals as goal

pub loop-name-preserved : goal.loop-name-preserved
loop-name-preserved c =
    let names = c.args.names.now in
    let numbers = c.args.numbers.now in
    let i = length c.loop-name.yielded in
    let x = c.in-Some.name.now in
    let z = c.in-Some.number.now in
    let turn = zip_turn names numbers c.loop-name.yielded c.into_iter-name-iterator.result c.loop-name.name-iterator c.next.new.self c.next.result (search rules) (search rules) c.loop-name.yielded_by
    (c.in-Some.name, c.in-Some.number) c.in-Some.is c.next.ensures.steps in
    let same : to_z w64 (of_z w64 z) ≡ z = search rules in
    let more : length (c.loop-name.yielded ++ (c.in-Some.name, c.in-Some.number) ∷ []) ≡ i + 1 = length-append c.loop-name.yielded _ in
    let told : c.note.new.self ≡ pushed (record { tick = c.args.tick; happening = happening.Out x z }) c.loop-name.trace =
    c.note.ensures ∙ ap (λ v. pushed (record { tick = c.args.tick; happening = happening.Out c.copy.result v }) c.loop-name.trace) same
    ∙ ap (λ y. pushed (record { tick = c.args.tick; happening = happening.Out y z }) c.loop-name.trace) c.copy.ensures in
    ap (λ k. noted c.args.tick (outputs_happened (drop k names) (drop k numbers)) c.note.new.self) more
    ∙ ap (noted c.args.tick (outputs_happened (drop (i + 1) names) (drop (i + 1) numbers))) told
    ∙ next_noted c.args.tick names numbers i x z c.loop-name.trace _ turn.0 turn.1 (sym (turn.2 x)) (sym (turn.3 z)) c.loop-name.invariant

pub returns : goal.returns
returns c =
    let names = c.args.names.now in
    let numbers = c.args.numbers.now in
    let i = length c.loop-name.yielded in
    let end : i ≡ min (length names) (length numbers) =
    zip_end names numbers c.loop-name.yielded c.into_iter-name-iterator.result c.loop-name.name-iterator c.next.new.self c.next.result (search rules) (search rules) c.loop-name.yielded_by c.in-None.is c.next.ensures.steps in
    sym (all_noted c.args.tick names numbers i c.loop-name.trace (omega (arith, end))) ∙ c.loop-name.invariant
