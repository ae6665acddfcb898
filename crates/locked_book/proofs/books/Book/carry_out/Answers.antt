use Rattle.std.proofs.Common.{◌≡◌, ◌+◌, arith, [], ◌∷◌, ◌++◌, length, refl, sym, ap, ◌∙◌}
use Rattle.rig_model.specs.declared.logged.Call.{Call}
use Rattle.std.proofs.lemmas.List.{length-append}
use Rattle.locked_book.specs.Books.{BaseValue, PassValue, Knows, length_of}
use Rattle.locked_book.specs.inner.Carried.{call_with}
use Rattle.locked_book.proofs.Steps.{knows_on}
use Rattle.locked_book.proofs.books.Book.carry_out.Goals as goal

pub returns-clause-known : goal.returns-clause-known
returns-clause-known g c =
    let call : Call = call_with c.args.tenant c.args.prepared c.in-Ok.ensures.noted.reply in
    let done = c.in-Ok.ensures.noted in
    let now : Knows c.answer_known.new.self (record { seat = c.args.pass.now.seat; calls = c.args.pass.now.calls ++ call ∷ []; seen = c.length-length.result + 1 }) =
    knows_on c.args.self.now c.answer_known.new.self c.args.pass.now call (c.length-length.result + 1) (c.if-not-knows.ensures.0 refl) done.base done.seats done.log (ap (λ n. n + 1) c.length-length.ensures.length) in
    let pass = c.pass.view_is ∙ done.pass in
    rw (ap (λ (p : PassValue). p.seat) pass, ap (λ (p : PassValue). p.calls) pass) now

pub returns-clause-answered : goal.returns-clause-answered
returns-clause-answered g c =
    let done = c.in-Ok.ensures.noted in
    let more : length_of c.answer_known.new.self ≡ length_of c.args.self.now + 1 =
    (let l = ap length done.log ∙ length-append c.args.self.now.log _ in let b = ap (λ (x : BaseValue). x.entries_before) done.base in omega (arith, l, b)) in
    let seen : c.length-length.result + 1 ≡ length_of c.answer_known.new.self = ap (λ n. n + 1) c.length-length.ensures.length ∙ sym more in
    let pass = c.pass.view_is ∙ done.pass in (
      done.reply,
      record {
        log = done.log;
        pass = rw (ap (λ (p : PassValue). p.seat) pass, ap (λ (p : PassValue). p.calls) pass, seen) refl;
        reply = done.right;
        step = done.step;
        base = done.base;
        seats = done.seats;
      },
      done.other,
      done.got,
    )
