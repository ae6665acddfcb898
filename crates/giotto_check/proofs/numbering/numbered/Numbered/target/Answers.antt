use Rattle.std.proofs.Common.{ap, ◌∙◌}
use Rattle.giotto_rules.specs.text.Program.{GiottoProgram}
use Rattle.giotto_check.proofs.cited.EntryLemmas.{mode_found, mode_there}
use Rattle.giotto_check.proofs.numbering.numbered.Numbered.target.Goals as goal

pub unreachable-requires : goal.unreachable-requires
unreachable-requires c =
    let p = c.args.self.now in
    let x = c.args.name.now in
    mode_there p x c.requires (mode_found p x c.modes.result.now c.mode_place.result c.mode_place.ensures (c.modes.ensures ∙ ap (λ (q : GiottoProgram). q.modes) c.self.view_is) ∙ c.in-None.is)

pub returns : goal.returns
returns c = mode_found c.args.self.now c.args.name.now c.modes.result.now c.mode_place.result c.mode_place.ensures (c.modes.ensures ∙ ap (λ (q : GiottoProgram). q.modes) c.self.view_is) ∙ c.in-Some.is
