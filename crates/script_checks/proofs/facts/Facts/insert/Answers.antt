use Rattle.script_checks.proofs.FactSets.{inserted}
use Rattle.script_checks.proofs.facts.Facts.insert.Goals as goal

pub returns-in-Ok : goal.returns-in-Ok
returns-in-Ok c = λ f. inserted c.args.fact f c.args.self.now.set.keys c.insert.new.self.keys (c.in-Ok.ensures.updates.0 f)
