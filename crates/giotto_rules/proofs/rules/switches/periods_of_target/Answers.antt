use Rattle.std.proofs.Common.{◌∙◌, None, Some, sym, ap}
use Rattle.std.specs.Prelude.{slice_get}
use Rattle.giotto_rules.specs.inner.Periods.{periods_in}
use Rattle.giotto_rules.proofs.FindLemmas.{mode_mapped, copied_at}
use Rattle.giotto_rules.proofs.rules.switches.periods_of_target.Goals as goal

pub returns-in-Some : goal.returns-in-Some
returns-in-Some c =
    let p = c.args.program.now in
    copied_at c.args.periods.now c.in-Some.place c.get.result c.get.ensures.lookup
    ∙ (ap (λ ps. slice_get ps c.in-Some.place) c.requires ∙ sym (mode_mapped (periods_in p) p c.args.mode.now (Some c.in-Some.place) (sym c.in-Some.is ∙ c.place_of_mode.ensures)))

pub returns-in-None : goal.returns-in-None
returns-in-None c = sym (mode_mapped (periods_in c.args.program.now) c.args.program.now c.args.mode.now None (sym c.in-None.is ∙ c.place_of_mode.ensures))
