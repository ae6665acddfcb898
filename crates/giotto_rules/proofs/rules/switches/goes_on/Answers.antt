use Rattle.std.proofs.Common.{◌∙◌, sym}
use Rattle.std.specs.Option.{option_copied}
use Rattle.giotto_rules.proofs.FindLemmas.{goes_on_at_place}
use Rattle.giotto_rules.proofs.rules.switches.goes_on.Goals as goal

pub returns-in-Some : goal.returns-in-Some
returns-in-Some c =
    c.is_period_at.ensures
    ∙ goes_on_at_place c.args.program.now c.args.mode.now c.args.task.now c.in-Some.place c.args.repetition.now.every (option_copied c.args.row) c.requires.row (sym c.in-Some.is ∙ c.requires.repetition)
