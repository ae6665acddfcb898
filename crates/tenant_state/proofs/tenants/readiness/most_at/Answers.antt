use Rattle.std.proofs.Common.{◌≡◌, ℕ, ◌<◌, ◌%◌, ◌==◌, [], length, max, filter, drop, sym, ap, subst, ◌∙◌, arith}
use Rattle.std.proofs.Math.Nat.{max-zero}
use Rattle.std.proofs.lemmas.List.{drop_all, take_all}
use Rattle.rig_model.specs.text.Program.{TaskInvocation}
use Rattle.tenant_slots.specs.well_formed.cited.Timetables.{IsExit, IsInvocation}
use Rattle.giotto_check.specs.declared.timetables.SlotExit.{SlotExit}
use Rattle.giotto_check.specs.declared.timetables.SlotInvocation.{SlotInvocation}
use Rattle.tenant_slots.proofs.of_well_formed.EachLemmas.{each_long}
use Rattle.giotto_tasks.proofs.cited.ListLemmas.{all_at}
use Rattle.rig_model.specs.Due.{is_due_at}
use Rattle.tenant_slots.proofs.cited.Numbered.{exit_due, invocation_due}
use Rattle.tenant_slots.proofs.cited.Quiet.{exits_positive, invocations_positive}
use Rattle.tenant_slots.proofs.cited.Updates.{each_item}
use Rattle.tenant_state.proofs.Shares.{due_each, most_entered, invoked_there, enters, stays}
use Rattle.tenant_state.proofs.tenants.readiness.most_at.Goals as goal
use Rattle.tenant_state.proofs.tenants.readiness.most_at.Goals.{then-is_due-2, else-is_due-2}

pub is_due-requires : goal.is_due-requires
is_due-requires c =
    let all = invocations_positive c.args.checked.now c.known.ensures.fits c.args.mode _ c.invocations-invocation-items.ensures.there c.invocations-invocation-items.ensures.none in
    subst (λ (e : SlotInvocation). 0 < e.interval) (sym c.invocation-item.is) (all_at (λ (e : SlotInvocation). 0 < e.interval) _ c.loop-invocation.invocation-index _ c.loop-invocation-test.true all)

pub loop-exit-init : goal.loop-exit-init
loop-exit-init c =
    let p = c.args.checked.now in
    let es = c.invocations-invocation-items.result.now in
    record {
      time = c.loop-invocation.invariant.time;
      most = λ m at. ap (λ n. max n (most_entered p m c.args.time m.switches))
          (c.loop-invocation.invariant.counted
          ∙ ap (λ es. length (filter (λ (e : SlotInvocation). c.args.time % e.interval == 0) es)) (take_all c.loop-invocation.invocation-index es c.loop-invocation-test.false)
          ∙ due_each (IsInvocation p m) (λ (i : TaskInvocation). is_due_at c.args.time m i.frequency) (λ (e : SlotInvocation). c.args.time % e.interval == 0)
          (invocation_due p c.known.ensures.fits c.args.time m) m.invocations es (c.invocations-invocation-items.ensures.there m at));
    }

pub is_due-requires-in-loop-exit : goal.is_due-requires-in-loop-exit
is_due-requires-in-loop-exit c =
    let all = exits_positive c.args.checked.now c.known.ensures.fits c.args.mode _ c.exits-exit-items.ensures.there c.exits-exit-items.ensures.none in
    subst (λ (e : SlotExit). 0 < e.interval) (sym c.exit-item.is) (all_at (λ (e : SlotExit). 0 < e.interval) _ c.loop-exit.exit-index _ c.loop-exit-test.true all)

pub loop-exit-preserved : goal.loop-exit-preserved
loop-exit-preserved c =
    let p = c.args.checked.now in
    let e = c.exit-item.result in
    let now : (c.args.time % e.interval == 0) ≡ c.is_due-in-loop-exit.result = ap (λ (t : ℕ). t % e.interval == 0) (sym c.loop-exit.invariant.time) ∙ sym c.is_due-in-loop-exit.ensures.due in
    record {
      time = c.is_due-in-loop-exit.ensures.time ∙ c.loop-exit.invariant.time;
      most = λ m at.
          let its = each_item (IsExit p m) m.switches _ c.loop-exit.exit-index e (c.exits-exit-items.ensures.there m at) c.loop-exit-test.true c.exit-item.is in
          let due = sym (exit_due p c.known.ensures.fits c.args.time m its.0 e its.2) ∙ now in
          elim c.if-is_due-2.branch [
            | then-is_due-2 w ↦ rw (w.most-is)
                (enters p m c.args.time c.loop-exit.most its.0 _ _ its.1 _ _ (due ∙ w.if-is_due-2.true) (invoked_there p its.0.target e.target _ its.2.target w.invocations.ensures.there) w.max-most.ensures
                ∙ c.loop-exit.invariant.most m at)
            | else-is_due-2 w ↦ rw (w.most-is) (stays p m c.args.time c.loop-exit.most its.0 _ _ its.1 (due ∙ w.if-is_due-2.false) ∙ c.loop-exit.invariant.most m at)
          ];
    }

pub returns : goal.returns
returns c m at =
    let p = c.args.checked.now in
    let same = each_long (IsExit p m) m.switches _ (c.exits-exit-items.ensures.there m at) in
    let none : drop c.loop-exit.exit-index m.switches ≡ [] = drop_all c.loop-exit.exit-index m.switches (omega (arith, same, c.loop-exit-test.false)) in
    sym (max-zero c.loop-exit.most) ∙ ap (λ ss. max c.loop-exit.most (most_entered p m c.args.time ss)) (sym none) ∙ c.loop-exit.invariant.most m at
