use Rattle.std.proofs.Common.{◌≡◌, ◌+◌, [], ◌∷◌, ◌++◌, Ok, take, sym, ap, subst, ◌∙◌}
use Rattle.std.proofs.lemmas.List.{take_more}
use Rattle.rig_model.specs.declared.lines.commands.Command.{Command}
use Rattle.rig_model.specs.declared.logged.Call.{Call}
use Rattle.locked_book.specs.Books.{AreCalled, BookValue, PassValue, asking}
use Rattle.locked_book.specs.inner.Books.{AreMade}
use Rattle.locked_book.proofs.Together.{called_more, called_none, made_more, made_none, made_same}
use Rattle.locked_book.proofs.desks.make_all.Goals as goal

pub loop-command-init : goal.loop-command-init
loop-command-init g c = (called_none c.args.tenant c.args.pass.now, made_none c.args.book.now c.args.pass.now)

pub loop-command-preserved : goal.loop-command-preserved
loop-command-preserved g c =
    let l = c.loop-command in
    let h = l.invariant in
    let t = c.args.tenant in
    let cs = c.args.commands.now in
    let item = c.command-item.result in
    let old = c.args.pass.now in
    let new = c.carry_out.new.pass in
    let given = c.in_ok-carry_out.ensures.answered in
    let call : Call = record { tenant = t; command = c.prepare.result; reply = given.0 } in
    let answered = given.1 in
    let so = called_more t (take l.command-index cs) item old l.pass new call h.0 (ap (asking t) (c.prepare.ensures ∙ c.in-Ok.ensures.same)) (ap (λ (p : PassValue). p.calls) answered.pass) in
    let more : take (l.command-index + 1) cs ≡ take l.command-index cs ++ item ∷ [] =
    take_more cs l.command-index item c.loop-command-test.true ∙ ap (λ (x : Command). take l.command-index cs ++ x ∷ []) (sym c.command-item.is) in
    subst (λ xs. (x : AreCalled t xs (Ok tt) old new) × AreMade x.made c.args.book.now c.carry_out.new.self old new) (sym more)
    (so, made_more h.0.made c.args.book.now l.book c.carry_out.new.self old l.pass new call h.1 answered c.in_ok-carry_out.ensures.known)

pub returns-then-is_full-clause-made : goal.returns-then-is_full-clause-made
returns-then-is_full-clause-made g c = λ made is.
    let l = c.loop-command in
    made_same l.invariant.0.made made c.args.book.now l.book c.args.pass.now l.pass l.invariant.1 is

pub returns-in_default-clause-made : goal.returns-in_default-clause-made
returns-in_default-clause-made g c = λ made is.
    let l = c.loop-command in
    made_same l.invariant.0.made made c.args.book.now l.book c.args.pass.now l.pass l.invariant.1 is

pub returns-in_err-carry_out-clause-made : goal.returns-in_err-carry_out-clause-made
returns-in_err-carry_out-clause-made g c = λ made is.
    let l = c.loop-command in
    let kept = c.in_err-carry_out.ensures.refused in
    subst (λ (b : BookValue). AreMade made c.args.book.now b c.args.pass.now c.carry_out.new.pass) (sym kept.0)
    (subst (λ (p : PassValue). AreMade made c.args.book.now l.book c.args.pass.now p) (sym kept.1)
    (made_same l.invariant.0.made made c.args.book.now l.book c.args.pass.now l.pass l.invariant.1 (ap (λ (p : PassValue). p.calls) (sym kept.1) ∙ is)))

pub returns-clause-made : goal.returns-clause-made
returns-clause-made g c = λ made is.
    let l = c.loop-command in
    made_same l.invariant.0.made made c.args.book.now l.book c.args.pass.now l.pass l.invariant.1 is
