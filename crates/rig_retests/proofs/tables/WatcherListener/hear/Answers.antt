use Rattle.rig_retests.proofs.Watching.{on_ok, watching_on}
use Rattle.rig_retests.proofs.tables.WatcherListener.hear.Goals as goal

pub returns-clause-heard : goal.returns-clause-heard
returns-clause-heard c =
    on_ok c.add_programs.result
    (λ setting texts w is stands. watching_on setting texts c.args.line c.args.host.now c.args.self.now.table c.add_instant.new.self.table c.args.self.now.added.items c.in_ok-self.field-0.items
    c.args.self.now.lines.items c.add_instant.new.self.lines.items w is stands c.in_ok-add_instant.ensures.table c.in_ok-add_instant.ensures.lines c.in_ok-self.ensures.added)
