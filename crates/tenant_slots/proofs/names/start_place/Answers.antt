use Rattle.std.proofs.Common.{◌≡◌, Some, None, sym, ap, subst, ◌∙◌, arith}
use Rattle.std.specs.Prelude.{IsSomeAnd, slice_get}
use Rattle.std.specs.List.{position_from}
use Rattle.rig_model.specs.text.Program.{ModeDeclaration, GiottoProgram}
use Rattle.rig_model.specs.declared.text.programs.Mode.{Mode}
use Rattle.giotto_tasks.specs.Names.{same_name}
use Rattle.giotto_tasks.proofs.cited.NameLemmas.{same_name_is}
use Rattle.giotto_check.proofs.cited.EntryLemmas.{mode_found, mode_there}
use Rattle.giotto_check.proofs.cited.PlaceLemmas.{passes_there}
use Rattle.tenant_slots.proofs.names.start_place.Goals as goal

pub unreachable-requires : goal.unreachable-requires
unreachable-requires c =
    let p = c.args.program.now in
    let modes = c.modes.ensures ∙ ap (λ (q : GiottoProgram). q.modes) c.program.ensures.tree in
    let start = c.start.ensures ∙ ap (λ (q : GiottoProgram). q.start) c.program-2.ensures.tree in
    let none = sym c.in-None.is ∙ c.place_in.ensures ∙ ap (λ x. position_from (λ (m : Mode). same_name m.name x) 0 c.modes.result.now) start in
    mode_there p p.start c.program.ensures.fits.start (mode_found p p.start c.modes.result.now None none modes)

pub returns : goal.returns
returns c =
    let p = c.args.program.now in
    let modes = c.modes.ensures ∙ ap (λ (q : GiottoProgram). q.modes) c.program.ensures.tree in
    let start = c.start.ensures ∙ ap (λ (q : GiottoProgram). q.start) c.program-2.ensures.tree in
    let some = sym c.in-Some.is ∙ c.place_in.ensures ∙ ap (λ x. position_from (λ (m : Mode). same_name m.name x) 0 c.modes.result.now) start in
    let place = mode_found p p.start c.modes.result.now (Some c.in-Some.place) some modes in
    let found = passes_there (λ (m : ModeDeclaration). same_name m.name p.start) 0 p.modes c.in-Some.place place in
    let here : slice_get p.modes c.in-Some.place ≡ Some found.1 = ap (slice_get p.modes) (omega (arith, found.2)) ∙ found.3 in
    subst (λ o. IsSomeAnd o (λ (m : ModeDeclaration). m.name ≡ p.start)) (sym here) (same_name_is found.1.name p.start found.4)
