use Rattle.run_comparisons.proofs.Hearing.{hears_answers}
use Rattle.run_comparisons.proofs.answers.AnswerListenerListener.hear.Goals as goal

pub returns-clause-heard : goal.returns-clause-heard
returns-clause-heard c = hears_answers c.add_answers.result c.args.self.now.answers.items c.add_answers.new.answers.items c.args.host.now c.args.line c.add_answers.ensures
