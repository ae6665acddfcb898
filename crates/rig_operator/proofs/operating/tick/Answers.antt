use Rattle.std.proofs.Common.{◌≡◌, ◌<◌, ℕ, ℤ, List, [], length, Option, Some, None, Result, OnOk, IfErr, IsSomeAnd, refl, subst, sym}
use Rattle.std.specs.Io.KnownBytes.{Appends}
use Rattle.rig_model.specs.OperatorLines.{bad_command, tick, tick_of}
use Rattle.rig_model.specs.lines.Words.{values_of_words, words_of}
use Rattle.rig_operator.specs.Asked.{Adds, Asked}
use Rattle.rig_operator.specs.Operation.IsAnswered.{unknown, unread}
use Rattle.rig_operator.specs.Replies.{err_bad_command, err_memory}
use Rattle.rig_operator.specs.declared.faults.OperatorFault.{OperatorFault}
use Rattle.rig_operator.specs.declared.faults.OperatorFault.TheVariants.{Write}
use Rattle.rig_operator.specs.inner.Answering.{AreReplied, IsReply}
use Rattle.rig_operator.proofs.Adding.{adds_nothing}
use Rattle.rig_operator.proofs.Replying.{replied}
use Rattle.rig_operator.proofs.operating.tick.Goals as goal

-- there was no memory for these values
no_memory : (Asks : List Asked → Type 0) (number : ℕ) (w v : Option (List ℕ)) (r : Result (Unit {0}) OperatorFault) (values : Option (List ℤ)) → IsSomeAnd values (λ frame. 8 < length frame)
    → OnOk r (Appends w v err_memory) → IfErr r (λ fault. fault ≡ Write) → Asks [] → IsReply r (AreReplied number number (tick_of values) Asks) (Appends w v)
no_memory Asks number w v r (Some frame) long written failed asks = replied Asks number number (tick frame) w v r [] err_memory written failed asks (unread frame long) refl
no_memory Asks number w v r None long written failed asks = absurd long

pub returns-in-Err : goal.returns-in-Err
returns-in-Err g c =
    let contents = g.W.Write.contents in
    let said = c.say-in-Err in
    no_memory _ c.args.number.now (contents c.args.writer.now) (contents said.new.writer) said.result (values_of_words (words_of c.args.values.now)) (c.in-Err.ensures.memory refl) said.ensures.written said.ensures.fault (adds_nothing (g.G.Rig.asked c.args.rig.now))

pub returns-in-Ok-None : goal.returns-in-Ok-None
returns-in-Ok-None g c =
    let contents = g.W.Write.contents in
    let number = c.args.number.now in
    let said = c.say in
    let none : values_of_words (words_of c.args.values.now) ≡ None = rw c.in-Ok-None.field-0-is at (sym c.in-Ok-None.ensures.values) in
    let none_asked = Adds (g.G.Rig.asked c.args.rig.now) (g.G.Rig.asked c.args.rig.now) in
    subst (λ values. IsReply said.result (AreReplied number number (tick_of values) none_asked) (Appends (contents c.args.writer.now) (contents said.new.writer))) (sym none)
    (replied none_asked number number bad_command (contents c.args.writer.now) (contents said.new.writer) said.result [] err_bad_command said.ensures.written said.ensures.fault (adds_nothing (g.G.Rig.asked c.args.rig.now)) unknown refl)
