use Rattle.rig_reports.proofs.Reporting.{hears_reply}
use Rattle.rig_reports.proofs.answered_runs.ReplyListenerListener.hear.Goals as goal

pub returns-clause-heard : goal.returns-clause-heard
returns-clause-heard c = hears_reply c.add.result c.args.self.now.replies c.add.new.self c.args._host.now c.args.line c.add.ensures
