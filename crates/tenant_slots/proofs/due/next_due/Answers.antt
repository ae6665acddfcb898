use Rattle.std.proofs.Common.{◌≡◌, ◌+◌, ◌<◌, ◌≤◌, ◌-◌, ◌^◌, ℕ, zero, suc, List, [], take, sym, subst, ◌∙◌, arith}
use Rattle.std.proofs.Math.Nat.{min-le_left, le-min}
use Rattle.std.specs.List.{AllByRecursion}
use Rattle.std.proofs.lemmas.List.{take_all}
use Rattle.giotto_check.specs.declared.timetables.SlotUpdate.{SlotUpdate}
use Rattle.giotto_check.specs.declared.timetables.SlotExit.{SlotExit}
use Rattle.giotto_check.specs.declared.timetables.SlotInvocation.{SlotInvocation}
use Rattle.giotto_tasks.proofs.cited.ListLemmas.{all_at}
use Rattle.tenant_slots.proofs.cited.Quiet.{AreQuiet, AreDue, quiet_more, due_more, due_at, due_front, due_now, exits_due, quiet_until, updates_due, updates_positive, exits_positive, invocations_positive}
use Rattle.tenant_slots.proofs.due.next_due.Goals as goal

pub next_multiple-requires : goal.next_multiple-requires
next_multiple-requires c =
    let all = updates_positive c.args.checked.now c.known.ensures.fits c.args.mode _ c.updates-update-items.ensures.there c.updates-update-items.ensures.none in
    subst (λ (e : SlotUpdate). 0 < e.interval) (sym c.update-item.is) (all_at (λ (e : SlotUpdate). 0 < e.interval) _ c.loop-update.update-index _ c.loop-update-test.true all)

pub loop-update-preserved : goal.loop-update-preserved
loop-update-preserved c = record {
  small = omega (arith, c.min-next.ensures, min-le_left c.loop-update.next c.next_multiple.result, c.loop-update.invariant.small);
  from = subst (λ n. c.args.time ≤ n) (sym c.min-next.ensures) (le-min c.loop-update.invariant.from c.next_multiple.ensures.from);
  quiet = quiet_more (λ (e : SlotUpdate). e.interval) _ c.loop-update.update-index c.update-item.result c.args.time c.loop-update.next c.next_multiple.result c.min-next.result c.loop-update-test.true c.update-item.is
      c.loop-update.invariant.quiet c.next_multiple.ensures.quiet c.min-next.ensures;
  due = due_more (λ (e : SlotUpdate). e.interval) _ c.loop-update.update-index c.update-item.result (2 ^ 64 - 1) c.loop-update.next c.next_multiple.result c.min-next.result c.loop-update-test.true c.update-item.is
      c.loop-update.invariant.due c.next_multiple.ensures.due c.loop-update.invariant.small c.min-next.ensures;
}

pub next_multiple-requires-in-loop-exit : goal.next_multiple-requires-in-loop-exit
next_multiple-requires-in-loop-exit c =
    let all = exits_positive c.args.checked.now c.known.ensures.fits c.args.mode _ c.exits-exit-items.ensures.there c.exits-exit-items.ensures.none in
    subst (λ (e : SlotExit). 0 < e.interval) (sym c.exit-item.is) (all_at (λ (e : SlotExit). 0 < e.interval) _ c.loop-exit.exit-index _ c.loop-exit-test.true all)

pub loop-exit-preserved : goal.loop-exit-preserved
loop-exit-preserved c = record {
  small = omega (arith, c.min-next-in-loop-exit.ensures, min-le_left c.loop-exit.next c.next_multiple-in-loop-exit.result, c.loop-exit.invariant.small);
  from = subst (λ n. c.args.time ≤ n) (sym c.min-next-in-loop-exit.ensures) (le-min c.loop-exit.invariant.from c.next_multiple-in-loop-exit.ensures.from);
  less = omega (arith, c.min-next-in-loop-exit.ensures, min-le_left c.loop-exit.next c.next_multiple-in-loop-exit.result, c.loop-exit.invariant.less);
  quiet = quiet_more (λ (e : SlotExit). e.interval) _ c.loop-exit.exit-index c.exit-item.result c.args.time c.loop-exit.next c.next_multiple-in-loop-exit.result
      c.min-next-in-loop-exit.result c.loop-exit-test.true c.exit-item.is c.loop-exit.invariant.quiet c.next_multiple-in-loop-exit.ensures.quiet c.min-next-in-loop-exit.ensures;
  due = due_more (λ (e : SlotExit). e.interval) _ c.loop-exit.exit-index c.exit-item.result c.loop-update.next c.loop-exit.next c.next_multiple-in-loop-exit.result
      c.min-next-in-loop-exit.result c.loop-exit-test.true c.exit-item.is c.loop-exit.invariant.due c.next_multiple-in-loop-exit.ensures.due c.loop-exit.invariant.small c.min-next-in-loop-exit.ensures;
}

pub next_multiple-requires-in-loop-invocation : goal.next_multiple-requires-in-loop-invocation
next_multiple-requires-in-loop-invocation c =
    let all = invocations_positive c.args.checked.now c.known.ensures.fits c.args.mode _ c.invocations-invocation-items.ensures.there c.invocations-invocation-items.ensures.none in
    subst (λ (e : SlotInvocation). 0 < e.interval) (sym c.invocation-item.is) (all_at (λ (e : SlotInvocation). 0 < e.interval) _ c.loop-invocation.invocation-index _ c.loop-invocation-test.true all)

pub loop-invocation-preserved : goal.loop-invocation-preserved
loop-invocation-preserved c = record {
  small = omega (arith, c.min-next-in-loop-invocation.ensures, min-le_left c.loop-invocation.next c.next_multiple-in-loop-invocation.result, c.loop-invocation.invariant.small);
  from = subst (λ n. c.args.time ≤ n) (sym c.min-next-in-loop-invocation.ensures) (le-min c.loop-invocation.invariant.from c.next_multiple-in-loop-invocation.ensures.from);
  less = omega (arith, c.min-next-in-loop-invocation.ensures, min-le_left c.loop-invocation.next c.next_multiple-in-loop-invocation.result, c.loop-invocation.invariant.less);
  quiet = quiet_more (λ (e : SlotInvocation). e.interval) _ c.loop-invocation.invocation-index c.invocation-item.result c.args.time c.loop-invocation.next c.next_multiple-in-loop-invocation.result
      c.min-next-in-loop-invocation.result c.loop-invocation-test.true c.invocation-item.is c.loop-invocation.invariant.quiet c.next_multiple-in-loop-invocation.ensures.quiet c.min-next-in-loop-invocation.ensures;
  due = due_more (λ (e : SlotInvocation). e.interval) _ c.loop-invocation.invocation-index c.invocation-item.result c.loop-exit.next c.loop-invocation.next c.next_multiple-in-loop-invocation.result
      c.min-next-in-loop-invocation.result c.loop-invocation-test.true c.invocation-item.is c.loop-invocation.invariant.due c.next_multiple-in-loop-invocation.ensures.due c.loop-invocation.invariant.small c.min-next-in-loop-invocation.ensures;
}

pub returns-then-next-time-clause-there : goal.returns-then-next-time-clause-there
returns-then-next-time-clause-there c =
    let us = c.updates-update-items.result.now in
    let more = due_more (λ (e : SlotUpdate). e.interval) us c.loop-update.update-index c.update-item.result (2 ^ 64 - 1) c.loop-update.next c.next_multiple.result c.args.time c.loop-update-test.true c.update-item.is
    c.loop-update.invariant.due c.next_multiple.ensures.due c.loop-update.invariant.small (sym c.if-next-time.true ∙ c.min-next.ensures) in
    λ m at. due_now m c.args.time
    (updates_due c.args.checked.now c.known.ensures.fits c.args.mode m us c.args.time (c.updates-update-items.ensures.there m at)
    (due_front (λ (e : SlotUpdate). e.interval) us (c.loop-update.update-index + 1) (2 ^ 64 - 1) c.args.time more))

pub returns-then-next-time-2-clause-there : goal.returns-then-next-time-2-clause-there
returns-then-next-time-2-clause-there c =
    let us = c.updates-update-items.result.now in
    let ss = c.exits-exit-items.result.now in
    let first = c.loop-update.next in
    let more = due_more (λ (e : SlotExit). e.interval) ss c.loop-exit.exit-index c.exit-item.result first c.loop-exit.next c.next_multiple-in-loop-exit.result c.args.time c.loop-exit-test.true c.exit-item.is
    c.loop-exit.invariant.due c.next_multiple-in-loop-exit.ensures.due c.loop-exit.invariant.small (sym c.if-next-time-2.true ∙ c.min-next-in-loop-exit.ensures) in
    λ m at. due_now m c.args.time
    (exits_due c.args.checked.now c.known.ensures.fits c.args.mode m us ss first c.args.time (c.updates-update-items.ensures.there m at) (c.exits-exit-items.ensures.there m at)
    (subst (λ es. AreDue (λ (e : SlotUpdate). e.interval) es (2 ^ 64 - 1) first) (take_all c.loop-update.update-index us c.loop-update-test.false) c.loop-update.invariant.due)
    (due_front (λ (e : SlotExit). e.interval) ss (c.loop-exit.exit-index + 1) first c.args.time more))

pub returns-then-next-time-3-clause-there : goal.returns-then-next-time-3-clause-there
returns-then-next-time-3-clause-there c =
    let us = c.updates-update-items.result.now in
    let ss = c.exits-exit-items.result.now in
    let is = c.invocations-invocation-items.result.now in
    let first = c.loop-update.next in
    let second = c.loop-exit.next in
    let more = due_more (λ (e : SlotInvocation). e.interval) is c.loop-invocation.invocation-index c.invocation-item.result second c.loop-invocation.next c.next_multiple-in-loop-invocation.result c.args.time c.loop-invocation-test.true
    c.invocation-item.is c.loop-invocation.invariant.due c.next_multiple-in-loop-invocation.ensures.due c.loop-invocation.invariant.small (sym c.if-next-time-3.true ∙ c.min-next-in-loop-invocation.ensures) in
    λ m at. due_now m c.args.time
    (due_at c.args.checked.now c.known.ensures.fits c.args.mode m us ss is first second c.args.time (c.updates-update-items.ensures.there m at) (c.exits-exit-items.ensures.there m at)
    (c.invocations-invocation-items.ensures.there m at)
    (subst (λ es. AreDue (λ (e : SlotUpdate). e.interval) es (2 ^ 64 - 1) first) (take_all c.loop-update.update-index us c.loop-update-test.false) c.loop-update.invariant.due)
    (subst (λ es. AreDue (λ (e : SlotExit). e.interval) es first second) (take_all c.loop-exit.exit-index ss c.loop-exit-test.false) c.loop-exit.invariant.due)
    (due_front (λ (e : SlotInvocation). e.interval) is (c.loop-invocation.invocation-index + 1) second c.args.time more))

pub returns-clause-there : goal.returns-clause-there
returns-clause-there c =
    let us = c.updates-update-items.result.now in
    let ss = c.exits-exit-items.result.now in
    let is = c.invocations-invocation-items.result.now in
    let all_us = take_all c.loop-update.update-index us c.loop-update-test.false in
    let all_ss = take_all c.loop-exit.exit-index ss c.loop-exit-test.false in
    let all_is = take_all c.loop-invocation.invocation-index is c.loop-invocation-test.false in
    λ m at. record {
      from = c.loop-invocation.invariant.from;
      quiet = quiet_until c.args.checked.now c.known.ensures.fits c.args.mode m us ss is c.args.time c.loop-update.next c.loop-exit.next c.loop-invocation.next
          (c.updates-update-items.ensures.there m at) (c.exits-exit-items.ensures.there m at) (c.invocations-invocation-items.ensures.there m at)
          (subst (λ es. AreQuiet (λ (e : SlotUpdate). e.interval) es c.args.time c.loop-update.next) all_us c.loop-update.invariant.quiet)
          (subst (λ es. AreQuiet (λ (e : SlotExit). e.interval) es c.args.time c.loop-exit.next) all_ss c.loop-exit.invariant.quiet)
          (subst (λ es. AreQuiet (λ (e : SlotInvocation). e.interval) es c.args.time c.loop-invocation.next) all_is c.loop-invocation.invariant.quiet)
          c.loop-exit.invariant.less c.loop-invocation.invariant.less;
      due = due_at c.args.checked.now c.known.ensures.fits c.args.mode m us ss is c.loop-update.next c.loop-exit.next c.loop-invocation.next
          (c.updates-update-items.ensures.there m at) (c.exits-exit-items.ensures.there m at) (c.invocations-invocation-items.ensures.there m at)
          (subst (λ es. AreDue (λ (e : SlotUpdate). e.interval) es (2 ^ 64 - 1) c.loop-update.next) all_us c.loop-update.invariant.due)
          (subst (λ es. AreDue (λ (e : SlotExit). e.interval) es c.loop-update.next c.loop-exit.next) all_ss c.loop-exit.invariant.due)
          (subst (λ es. AreDue (λ (e : SlotInvocation). e.interval) es c.loop-exit.next c.loop-invocation.next) all_is c.loop-invocation.invariant.due);
    }

pub returns-clause-none : goal.returns-clause-none
returns-clause-none c past =
    c.loop-invocation.invariant.due (none_taken _ _ c.loop-invocation.invocation-index (c.invocations-invocation-items.ensures.none past))
    ∙ c.loop-exit.invariant.due (none_taken _ _ c.loop-exit.exit-index (c.exits-exit-items.ensures.none past))
    ∙ c.loop-update.invariant.due (none_taken _ _ c.loop-update.update-index (c.updates-update-items.ensures.none past))
  where
    none_taken : {E : Type 0} (P : E → Type 0) (es : List E) (i : ℕ) → es ≡ [] → AllByRecursion P (take i es)
    none_taken P es zero none = tt
    none_taken P es (suc i) none = subst (λ xs. AllByRecursion P (take (suc i) xs)) (sym none) tt
