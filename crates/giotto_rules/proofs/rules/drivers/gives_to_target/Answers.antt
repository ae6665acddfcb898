use Rattle.std.proofs.Common.{◌∙◌, ◌==◌, refl, sym, ap, length}
use Rattle.giotto_text.specs.ProgramTrees.{switch_of, destination_of}
use Rattle.giotto_rules.specs.Declarations.{destinations_of}
use Rattle.giotto_rules.specs.Names.{are_among}
use Rattle.giotto_rules.proofs.FindLemmas.{none_among}
use Rattle.giotto_rules.proofs.rules.drivers.gives_to_target.Goals as goal

pub returns-in-None : goal.returns-in-None
returns-in-None c =
    let switch = c.args.switch.now in
    c.is_empty.ensures
    ∙ (ap (λ ds. length ds == 0) c.as_slice.ensures
    ∙ (sym (none_among destination_of switch.destinations) ∙ ap (λ ports. are_among ports (destinations_of (switch_of switch))) (sym (c.in-None.ensures.missing refl))))
