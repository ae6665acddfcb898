use Rattle.std.proofs.Common.{◌∙◌, ◌&&◌, ◌||◌, eqb, ap}
use Rattle.rig_model.specs.HostState.{row_at}
use Rattle.rig_model.specs.Sources.{is_source, suppliers_of}
use Rattle.host_core.proofs.Flows.{one_tenant_more}
use Rattle.host_core.proofs.trials.flows.Goals as goal

pub loop-consumer-preserved : goal.loop-consumer-preserved
loop-consumer-preserved c = λ setting state stands t u.
    c.in_ok-add_flows.ensures setting state stands t u
    ∙ (ap (λ b. b || (eqb t c.loop-consumer.consumer && is_source (suppliers_of setting (row_at state c.loop-consumer.consumer)) u)) (c.loop-consumer.invariant setting state stands t u)
    ∙ one_tenant_more (λ s. is_source (suppliers_of setting (row_at state s)) u) t c.loop-consumer.consumer)
