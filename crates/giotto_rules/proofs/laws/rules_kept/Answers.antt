use Rattle.giotto_rules.proofs.cited.RulesKept.{rules_kept, none_broken}
use Rattle.giotto_rules.proofs.laws.rules_kept.Goals as goal

pub returns : goal.returns
returns c = λ p. (rules_kept p, none_broken p)
