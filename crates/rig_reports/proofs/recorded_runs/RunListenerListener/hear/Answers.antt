use Rattle.std.proofs.Common.{string_bytes}
use Rattle.rig_reports.proofs.RecordedRuns.{hears_entry}
use Rattle.rig_reports.proofs.recorded_runs.RunListenerListener.hear.Goals as goal

pub returns-clause-heard : goal.returns-clause-heard
returns-clause-heard c = hears_entry c.add_line.result (string_bytes c.args.self.now.text) (string_bytes c.add_line.new.text) c.args._host.now c.args.line c.add_line.ensures
