use Rattle.std.proofs.Common.{◌≡◌, ◌++◌, reverse, ap, sym, ◌∙◌, subst, arith}
use Rattle.rig_model.specs.declared.logged.Logged.TheVariants as logged
use Rattle.rig_model.specs.Logs.{IsLegalLog}
use Rattle.locked_book.specs.Books.{BaseValue, BookValue, IsLegalFrom, new_setting}
use Rattle.locked_book.proofs.Continued.{length_both}
use Rattle.locked_book.proofs.Kept.{turned}
use Rattle.locked_book.proofs.desks.Desk.done.Goals as goal

pub returns-clause-counted : goal.returns-clause-counted
returns-clause-counted g c = λ is.
    let rig = g.N.Naming.config in
    let first = g.N.Naming.first_tick in
    let old = c.deref_mut.result.now in
    let new = c.done-answer.new.self in
    let added = c.done-answer.ensures.counted is in
    let legal : IsLegalFrom rig first new.base new.log new.host = subst (λ (b : BookValue). IsLegalFrom rig first b.base b.log b.host) c.deref.ensures c.leave.ensures in
    let same = ap (λ (b : BaseValue). b.entries_before) c.done-answer.ensures.base.0 in
    let entries = legal.reached.entries in
    let many = length_both legal.past old.log in (
      reverse old.log ++ legal.past,
      subst (IsLegalLog (new_setting rig first)) (ap (λ l. l ++ legal.past) (ap reverse added.0 ∙ turned old.log (logged.Done c.args.done.id))) legal.whole,
      omega (arith, same, entries, many, added.1),
    )
