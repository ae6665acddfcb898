use Rattle.std.proofs.Common.{◌≡◌, ◌≢◌, Result, Ok, Err, IfOk, sym, subst}
use Rattle.rig_model.specs.declared.lines.commands.Command.{Command}
use Rattle.rig_model.specs.declared.lines.replies.Refusal.TheVariants.{Memory}
use Rattle.rig_model.specs.declared.lines.replies.Reply.{Reply}
use Rattle.rig_model.specs.declared.lines.replies.Reply.TheVariants.{Refused}
use Rattle.locked_book.specs.Books.{IsAnswered}
use Rattle.locked_book.specs.inner.Carried.{call_with}
use Rattle.locked_book.proofs.books.Book.call.Goals as goal

if_ok : {E T : Type 0} {P Q : T → Type 0} (r : Result T E) → ((x : T) → P x → Q x) → IfOk r P → IfOk r Q
if_ok (Ok x) f p = f x p
if_ok (Err e) f p = p

pub returns-clause-answered : goal.returns-clause-answered
returns-clause-answered g c =
    let is_answered = IsAnswered c.args.self.now c.carry_out.new.self c.args.pass.now c.carry_out.new.pass in
    if_ok c.carry_out.result
    (λ got a. subst (λ (command : Command). is_answered (call_with c.args.tenant command got)) c.prepare-prepared.ensures
    (subst (λ (r : Reply). is_answered (call_with c.args.tenant c.prepare-prepared.result r)) (sym a.3) a.1))
    c.carry_out.ensures.answered

pub returns-clause-memory : goal.returns-clause-memory
returns-clause-memory g c = if_ok c.carry_out.result (λ got a. subst (λ (r : Reply). r ≢ Refused Memory) (sym a.3) a.2) c.carry_out.ensures.answered
