use Rattle.std.proofs.Common.{◌∙◌}
use Rattle.script_checks.proofs.FactSets.{found_in}
use Rattle.script_checks.proofs.facts.Facts.has.Goals as goal

pub returns : goal.returns
returns c = c.contains.ensures ∙ found_in c.args.fact.now c.args.self.now.set.keys
