use Rattle.std.proofs.Common.{sym, ap, ◌∙◌}
use Rattle.rig_model.specs.Answers.{answers_of}
use Rattle.rig_laws.proofs.cited.TwoWorlds.{kept_answers}
use Rattle.rig_laws.proofs.laws.equal_kept_lists_give_equal_answers.Goals as goal

pub returns : goal.returns
returns c = λ setting past others t same. sym (kept_answers setting past t) ∙ (ap (λ kept. answers_of setting kept t) same ∙ kept_answers setting others t)
