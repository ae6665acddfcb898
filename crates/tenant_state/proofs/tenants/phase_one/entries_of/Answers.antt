use Rattle.std.proofs.Common.{◌-◌, IfSome, inr, subst, take, drop, length, ap, sym, ◌∙◌, filter, nat_eq, arith}
use Rattle.std.proofs.lemmas.List.{take_all}
use Rattle.tenant_state.specs.inner.EntryTable.{IsTableOf}
use Rattle.tenant_state.proofs.tenants.phase_one.entries_of.Goals as goal

pub returns : goal.returns
returns c =
    let items = c.args.active.now in
    let all = take_all (length items) items (omega (arith)) in
    let table : IsTableOf (length items) items c.args.table.now.numbers = c.requires c.if-not-table.false in
    inr (sym (ap (filter (λ a. nat_eq a.task c.args.task)) (sym all) ∙ (table c.args.task c.if-task-ge-TABLED_TASKS.false).1 ∙ sym (ap (λ n. take (c.from-end.result - n) (drop n items)) c.saturating_sub.ensures ∙ ap (λ n. take (n - (n - 1)) (drop (n - 1) items)) c.from-end.ensures)))
