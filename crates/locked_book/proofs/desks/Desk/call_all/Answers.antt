use Rattle.std.proofs.Common.{rules, ◌≡◌, [], sym, subst, ◌∙◌, append-nil, refl}
use Rattle.locked_book.specs.Books.{BookValue, IsLegalFrom}
use Rattle.locked_book.proofs.Together.{made_ends}
use Rattle.locked_book.proofs.desks.Desk.call_all.Goals as goal

pub returns-clause-legal : goal.returns-clause-legal
returns-clause-legal g c = λ made is some.
    let rig = g.N.Naming.config in
    let first = g.N.Naming.first_tick in
    let book = c.make_all-answer.new.book in
    let same : c.deref.result.now ≡ book = search rules in
    let legal = subst (λ (b : BookValue). IsLegalFrom rig first b.base b.log b.host) same c.leave.ensures in
    made_ends rig first made c.deref_mut.result.now book c.args.pass.now c.make_all-answer.new.pass (c.make_all-answer.ensures.made made is) some legal

pub returns-clause-none : goal.returns-clause-none
returns-clause-none g c = λ is. (c.make_all-answer.ensures.made [] (is ∙ sym (append-nil c.args.pass.now.calls))).none refl
