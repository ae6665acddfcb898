use Rattle.host_core.proofs.Stages.{noted_more}
use Rattle.host_core.proofs.trials.note_flows.Goals as goal

pub returns : goal.returns
returns c = noted_more c.args.event.now c.args.stage.now c.host.result.now c.args.noted.now.items c.push.new.self.items c.in_ok-flows_before.field-0 c.host.ensures c.in_ok-flows_before.ensures c.in_ok-push.ensures.items
