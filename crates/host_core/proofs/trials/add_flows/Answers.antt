use Rattle.std.proofs.Common.{◌∙◌, ◌≡◌, ◌<◌, ◌&&◌, ◌||◌, eqb, length, ap, take, arith}
use Rattle.std.proofs.Math.Seq.{take-length}
use Rattle.std.specs.Option.{option_map}
use Rattle.rig_model.specs.HostState.{row_at}
use Rattle.rig_model.specs.Sources.{is_source}
use Rattle.rig_model.specs.Tenancies.{roster_of}
use Rattle.host_core.specs.inner.Trials.{has_flow}
use Rattle.host_core.proofs.Flows.{flow_of_bind, lent, named, no_flow_of_bind}
use Rattle.host_core.proofs.trials.add_flows.Goals as goal
use Rattle.host_core.proofs.trials.add_flows.Goals.{in-Some+in_ok-push, in_default}

pub loop-i-preserved : goal.loop-i-preserved
loop-i-preserved c = λ setting state stands t u.
    let binds = (row_at state c.args.consumer).binds in
    let within : c.loop-i.i < length binds = omega (arith, c.loop-i-test.true, c.bind_count-i-end.ensures.rows setting state stands) in
    elim c.match-bind_at.branch [
      | in-Some+in_ok-push w ↦
          ap (λ fs. has_flow fs t u) (ap (λ v. v.items) w.flows-is ∙ w.in_ok-push.ensures.items)
          ∙ flow_of_bind c.loop-i.flows.items c.args.flows.now.items c.args.consumer _ (roster_of setting.config) binds c.loop-i.i (option_map lent c.bind_at.result) _ _ within
          (c.bind_at.ensures.rows setting state stands) (ap (option_map lent) w.in-Some.is) (c.loop-i.invariant setting state stands) t u
      | in_default w ↦
          ap (λ fs. has_flow fs t u) (ap (λ v. v.items) w.flows-is)
          ∙ no_flow_of_bind c.loop-i.flows.items c.args.flows.now.items c.args.consumer (roster_of setting.config) binds c.loop-i.i (option_map lent c.bind_at.result) within
          (c.bind_at.ensures.rows setting state stands) (ap (option_map lent) w.in_default.is) (c.loop-i.invariant setting state stands) t u
    ]

pub returns : goal.returns
returns c = λ setting state stands t u.
    let binds = (row_at state c.args.consumer).binds in
    let all : c.loop-i.i ≡ length binds = omega (arith, c.loop-i-test.false, c.loop-i.auto.i-end, c.bind_count-i-end.ensures.rows setting state stands) in
    c.loop-i.invariant setting state stands t u
    ∙ ap (λ bs. has_flow c.args.flows.now.items t u || (eqb t c.args.consumer && is_source (named (roster_of setting.config) bs) u)) (ap (λ n. take n binds) all ∙ take-length binds)
