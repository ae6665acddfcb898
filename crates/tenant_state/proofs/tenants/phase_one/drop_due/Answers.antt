use Rattle.std.proofs.Common.{◌≡◌, ◌<◌, ◌-◌, Bool, not, filter, length, take, drop, ap, sym, ◌∙◌, arith}
use Rattle.std.specs.List.{list_any}
use Rattle.std.proofs.lemmas.List.Filters.{FiltersInPlace-more_here, FiltersInPlace-more_no, FiltersInPlace-more_swap}
use Rattle.tenant_state.specs.declared.tenants.Active.{Active}
use Rattle.tenant_state.specs.ActiveTasks.{TaskList}
use Rattle.tenant_slots.specs.cited.Due.{is_among_due}
use Rattle.tenant_state.proofs.Dropped.{all_behind, behind_here, behind_more, behind_swap}
use Rattle.tenant_state.proofs.tenants.phase_one.drop_due.Goals as goal
use Rattle.tenant_state.proofs.tenants.phase_one.drop_due.Goals.{then-not-is_ending, then-kept-i, else-kept-i, else-not-is_ending}

pub loop-i-preserved : goal.loop-i-preserved
loop-i-preserved c =
    let before = c.loop-i.invariant in
    let h = before.stay in
    let due : Active → Bool = λ a. is_among_due c.args.time a.task c.args.invocations.now in
    let xs = c.active.inside.entries.items in
    let ys = c.loop-i.active-inside.entries.items in
    let k = c.loop-i.kept in
    let i = c.loop-i.i in
    let a = c.index.result.now in
    let lt : c.loop-i.i < length c.loop-i.active-inside.entries.items = omega arith in
    elim c.if-not-is_ending.branch [
      | then-not-is_ending w ↦
          let late = sym c.is_ending.ensures ∙ w.if-not-is_ending.true in
          let stays = ap not late in
          elim w.if-kept-i.branch [
            | then-kept-i u ↦ rw (w.active-inside-is, u.active-inside-is, w.kept-is) (record {
              count = before.count;
              stay = FiltersInPlace-more_swap h lt stays c.index.ensures u.swap.ensures.by_index;
              behind = behind_swap due xs ys k i a h lt c.index.ensures before.behind late u.if-kept-i.true u.swap.ensures.by_index;
            })
            | else-kept-i u ↦
                let here : k ≡ i = omega (arith, u.if-kept-i.false, h.behind) in
                rw (w.active-inside-is, u.active-inside-is, w.kept-is) (record {
                  count = before.count;
                  stay = FiltersInPlace-more_here h lt stays c.index.ensures here;
                  behind = behind_here due xs ys k i a h lt c.index.ensures before.behind late here;
                })
          ]
      | else-not-is_ending w ↦
          let late = sym c.is_ending.ensures ∙ w.if-not-is_ending.false in
          rw (w.active-inside-is, w.kept-is) (record {
            count = before.count;
            stay = FiltersInPlace-more_no h lt (ap not late) c.index.ensures;
            behind = behind_more due xs ys k i a h lt c.index.ensures before.behind late;
          })
    ]

pub returns-clause-ended : goal.returns-clause-ended
returns-clause-ended c = λ test.
    let due : Active → Bool = λ a. is_among_due c.args.time a.task c.args.invocations.now in
    let xs = c.active.inside.entries.items in
    let ys = c.loop-i.active-inside.entries.items in
    let k = c.loop-i.kept in
    let is = c.loop-i.invariant in
    let all : c.loop-i.i ≡ c.active.inside.count = omega (arith, c.loop-i-test.false, c.loop-i.auto.i-end) in
    let items : take c.loop-i.i xs ≡ c.args.active.now.items = ap (λ n. take n xs) all ∙ ap (λ (t : TaskList). t.items) c.active.view_is in
    ap (λ n. list_any test (take (n - k) (drop k ys))) (is.count ∙ sym all)
    ∙ all_behind due xs ys k c.loop-i.i is.behind is.stay.behind test ∙ ap (λ l. list_any test (filter due l)) items
