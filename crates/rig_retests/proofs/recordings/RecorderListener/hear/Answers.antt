use Rattle.rig_retests.proofs.Recording.{hears_recorded}
use Rattle.rig_retests.proofs.recordings.RecorderListener.hear.Goals as goal

pub returns-clause-heard : goal.returns-clause-heard
returns-clause-heard c = hears_recorded c.add_events.result c.args.self.now.events.items c.add_events.new.events.items c.args.self.now.lines.items c.note.new.lines.items c.args._host.now c.args.line c.add_events.ensures c.in_ok-note.ensures
