use Rattle.std.proofs.Common.{◌∙◌}
use Rattle.rig_server.specs.inner.Archived.{archived_of}
use Rattle.rig_server.proofs.Archiving.{one_noted}
use Rattle.rig_server.proofs.archived.Archived.add_log.Goals as goal

pub loop-noted-preserved : goal.loop-noted-preserved
loop-noted-preserved c = λ seat.
    one_noted c.args.log.now c.loop-noted.noted c.index-log-noted.result (archived_of c.loop-noted.self.rows.items seat) (archived_of c.add.new.self.rows.items seat) seat c.loop-noted-test.true c.index-log-noted.is
    (c.in_ok-add.ensures.added seat)
    ∙ c.loop-noted.invariant seat
