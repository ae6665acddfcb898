use Rattle.std.proofs.Common.{◌∙◌, [], None, Some, sym, ap}
use Rattle.std.specs.Prelude.{slice_get}
use Rattle.std.specs.Option.{option_copied, unwrap_or}
use Rattle.giotto_rules.specs.Declarations.{mode_named}
use Rattle.giotto_rules.specs.Drivers.{ports_of_target}
use Rattle.giotto_rules.proofs.FindLemmas.{ports_at_place, ports_found_in, copied_at}
use Rattle.giotto_rules.proofs.rules.drivers.ports_of_target.Goals as goal

pub returns-in-Some-clause-found : goal.returns-in-Some-clause-found
returns-in-Some-clause-found c =
    let p = c.args.program.now in
    let x = c.args.mode.now in
    let here = ports_at_place p x (Some c.in-Some.place) (sym c.in-Some.is ∙ c.place_of_mode.ensures) in
    ports_found_in (ports_of_target p (mode_named p x)) c.get.result
    (here ∙ ap (λ o. unwrap_or o []) (ap (λ ps. slice_get ps c.in-Some.place) (sym c.requires) ∙ sym (copied_at c.args.ports.now c.in-Some.place c.get.result c.get.ensures.lookup)))

pub returns-in-Some-clause-missing : goal.returns-in-Some-clause-missing
returns-in-Some-clause-missing c = λ none.
    let p = c.args.program.now in
    let x = c.args.mode.now in
    let here = ports_at_place p x (Some c.in-Some.place) (sym c.in-Some.is ∙ c.place_of_mode.ensures) in
    here ∙ ap (λ o. unwrap_or o []) (ap (λ ps. slice_get ps c.in-Some.place) (sym c.requires) ∙ (sym (copied_at c.args.ports.now c.in-Some.place c.get.result c.get.ensures.lookup) ∙ ap option_copied none))

pub returns-in-None-clause-missing : goal.returns-in-None-clause-missing
returns-in-None-clause-missing c = λ none. ports_at_place c.args.program.now c.args.mode.now None (sym c.in-None.is ∙ c.place_of_mode.ensures)
