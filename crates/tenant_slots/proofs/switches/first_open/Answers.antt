use Rattle.std.proofs.Common.{◌≡◌, ℕ, ◌+◌, ◌%◌, ◌==◌, ◌&&◌, true, false, [], drop, sym, ap, subst, ◌∙◌, arith}
use Rattle.std.specs.Prelude.{IsSomeAnd}
use Rattle.std.specs.List.{find}
use Rattle.std.proofs.lemmas.Bool.{and_from, and_left, and_right}
use Rattle.std.proofs.lemmas.List.{drop_all}
use Rattle.rig_model.specs.text.Program.{ModeSwitch}
use Rattle.giotto_check.specs.Slots.{valuation_of}
use Rattle.giotto_check.specs.cited.Timetables.{IsExit}
use Rattle.giotto_check.proofs.cited.EachLemmas.{each_long}
use Rattle.rig_model.specs.Ports.{holds}
use Rattle.rig_model.specs.Switches.{is_open}
use Rattle.tenant_slots.proofs.TakenSwitches.{found_first, found_later, opens}
use Rattle.tenant_slots.proofs.cited.Updates.{each_item}
use Rattle.tenant_slots.proofs.switches.first_open.Goals as goal
use Rattle.tenant_slots.proofs.switches.first_open.Goals.{else-is_due-via-then-is_due+else-holds, else-is_due-via-else-is_due}

pub returns-then-holds : goal.returns-then-holds
returns-then-holds c = λ p m each long.
    let values = c.args.values.now in
    let e = c.exit-item.result in
    let k = c.loop-exit.exit-index in
    let test = is_open m c.args.time (valuation_of p values) in
    let item = each_item (IsExit p m) m.switches c.args.exits.now k e each c.loop-exit-test.true c.exit-item.is in
    let due : (c.args.time % e.interval == 0) ≡ true = ap (λ (t : ℕ). t % e.interval == 0) (sym c.loop-exit.invariant.time) ∙ sym c.is_due.ensures.due ∙ c.if-is_due.true in
    let held : holds item.0.guard (valuation_of p values) ≡ true = sym (c.holds.ensures p item.0.guard item.2.guard long) ∙ c.if-holds.true in
    let found = found_first test (drop k m.switches) (drop (k + 1) m.switches) item.0 item.1 (opens p m c.args.time item.0 e values true item.2 (and_from _ _ due held)) in
    subst (λ o. IsSomeAnd o (λ (s : ModeSwitch). IsExit p m s e)) (sym found ∙ c.loop-exit.invariant.left p m each long) item.2

pub loop-exit-preserved : goal.loop-exit-preserved
loop-exit-preserved c =
    let values = c.args.values.now in
    let e = c.exit-item.result in
    let k = c.loop-exit.exit-index in
    let now : (c.args.time % e.interval == 0) ≡ c.is_due.result = ap (λ (t : ℕ). t % e.interval == 0) (sym c.loop-exit.invariant.time) ∙ sym c.is_due.ensures.due in
    record {
      time = c.is_due.ensures.time ∙ c.loop-exit.invariant.time;
      left = λ p m each long.
          let test = is_open m c.args.time (valuation_of p values) in
          let item = each_item (IsExit p m) m.switches c.args.exits.now k e each c.loop-exit-test.true c.exit-item.is in
          let waits : ((c.args.time % e.interval == 0) && holds item.0.guard (valuation_of p values)) ≡ false =
          elim c.else-is_due.branch [
            | else-is_due-via-then-is_due+else-holds w ↦ and_right _ _ (sym (w.holds.ensures p item.0.guard item.2.guard long) ∙ w.if-holds.false)
            | else-is_due-via-else-is_due w ↦ and_left _ _ (now ∙ w.if-is_due.false)
          ] in
          sym (found_later test (drop k m.switches) (drop (k + 1) m.switches) item.0 item.1 (opens p m c.args.time item.0 e values false item.2 waits)) ∙ c.loop-exit.invariant.left p m each long;
    }

pub returns : goal.returns
returns c = λ p m each long.
    let test = is_open m c.args.time (valuation_of p c.args.values.now) in
    let same = each_long (IsExit p m) m.switches c.args.exits.now each in
    let none : drop c.loop-exit.exit-index m.switches ≡ [] = drop_all c.loop-exit.exit-index m.switches (omega (arith, same, c.loop-exit-test.false)) in
    sym (c.loop-exit.invariant.left p m each long) ∙ ap (find test) none
