use Rattle.std.proofs.Common.{◌≡◌, ◌<◌, arith, ℕ, ◌+◌, ◌↔◌, List, [], refl, sym, ap, ◌∙◌, length, drop, Some}
use Rattle.std.proofs.lemmas.Bool.Decides.{nat_tests}
use Rattle.std.proofs.Math.ListN.{get_or}
use Rattle.std.proofs.lemmas.List.{get_or-drop, get_or_default, length-drop}
use Rattle.rig_model.specs.declared.logged.Call.{Call}
use Rattle.rig_model.specs.declared.logged.Logged.{Logged}
use Rattle.rig_model.specs.declared.logged.Logged.TheVariants as logged
use Rattle.locked_book.specs.inner.Books.{call_at, call_of}
use Rattle.locked_book.proofs.Steps.{one_call_more, at_one}
use Rattle.locked_book.proofs.known.are_calls.Goals as goal

read : (log : List Logged) (places : List ℕ) (calls : List Call) (before k : ℕ) (entry : Logged) (call : Call) → get_or places k 0 < length log
    → entry ≡ get_or log (get_or places k 0) entry → call ≡ get_or calls (before + k) call
    → (call_of entry ≡ Some call) ↔ (call_at log (get_or places k 0) ≡ Some (get_or (drop before calls) k call))
read log places calls before k entry call lt entry_is call_is =
    let there : call_of entry ≡ call_at log (get_or places k 0) = ap call_of (entry_is ∙ get_or_default log (get_or places k 0) entry (logged.Tick []) lt) in
    let same : Some call ≡ Some (get_or (drop before calls) k call) = ap Some (call_is ∙ sym (get_or-drop before calls k call)) in (
      (λ e. sym there ∙ e ∙ same),
      (λ e. there ∙ e ∙ sym same),
    )

pub returns-then-not-is_call : goal.returns-then-not-is_call
returns-then-not-is_call c = (
  (λ e. absurd (cc)),
  (λ e.
      let k = c.loop-k.k in
      let lt = c.loop-k-test.true in
      let l = length-drop c.args.before c.args.calls.now in
      let same = c.if-places-calls.false in
      let in_calls : k < length (drop c.args.before c.args.calls.now) = grind (arith, nat_tests, l, lt, same) in
      c.if-not-is_call.ensures.1 ((read c.args.log.now c.args.places.now c.args.calls.now c.args.before k c.index-log-place.result c.index-calls-before.result (c.requires.within k lt) c.index-log-place.is c.index-calls-before.is).1
      (at_one c.args.log.now c.args.places.now (drop c.args.before c.args.calls.now) k c.index-calls-before.result lt in_calls e))),
)

pub loop-k-preserved : goal.loop-k-preserved
loop-k-preserved c =
    let k = c.loop-k.k in
    let lt = c.loop-k-test.true in
    let l = length-drop c.args.before c.args.calls.now in
    let same = c.if-places-calls.false in
    let in_calls : k < length (drop c.args.before c.args.calls.now) = grind (arith, nat_tests, l, lt, same) in
    one_call_more c.args.log.now c.args.places.now (drop c.args.before c.args.calls.now) k c.index-calls-before.result lt in_calls c.loop-k.invariant
    ((read c.args.log.now c.args.places.now c.args.calls.now c.args.before k c.index-log-place.result c.index-calls-before.result (c.requires.within k lt) c.index-log-place.is c.index-calls-before.is).0 (c.if-not-is_call.ensures.0 refl))
