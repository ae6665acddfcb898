use Rattle.std.proofs.Common.{◌≡◌, ◌+◌, ◌⊎◌, ℕ, List, [], ◌∷◌, ◌++◌, take, refl, sym, ap, subst, ◌∙◌, inl, inr}
use Rattle.std.proofs.lemmas.List.{take_more}
use Rattle.std.proofs.KnownBytes.{Appends-trans}
use Rattle.std.specs.Io.KnownBytes.{Appends}
use Rattle.rig_model.specs.Sessions.{Outcome, replied, text_of_outcome, untold, written}
use Rattle.rig_model.specs.declared.logged.Call.{Call}
use Rattle.rig_sessions.specs.inner.Answered.{AreTold}
use Rattle.rig_sessions.proofs.Batches.{told_more}
use Rattle.rig_sessions.proofs.waiting.say_replies.Goals as goal

pub loop-call-preserved : goal.loop-call-preserved
loop-call-preserved g c =
    let l = c.loop-call in
    let h = l.invariant in
    let contents = g.W.Write.contents in
    let k = c.call-item.result in
    let cs = c.args.calls.now in
    let more : take (l.call-index + 1) cs ≡ take l.call-index cs ++ k ∷ [] =
    take_more cs l.call-index k c.loop-call-test.true ∙ ap (λ (x : Call). take l.call-index cs ++ x ∷ []) (sym c.call-item.is) in
    let Told : List Call → Type 0 = λ ks. (outcomes : List Outcome) × (said : List ℕ) × AreTold ks outcomes said × Appends (contents c.args.writer.now) (contents c.say_reply.new.writer) said in
    let by : (o : Outcome) → (o ≡ replied k.reply) ⊎ (o ≡ untold k.reply) → Appends (contents l.writer) (contents c.say_reply.new.writer) (written (text_of_outcome o)) → Told (take l.call-index cs ++ k ∷ []) =
    λ o is grown. (
      h.0 ++ o ∷ [],
      h.1 ++ written (text_of_outcome o),
      told_more (take l.call-index cs) h.0 h.1 k o h.2 is,
      Appends-trans (contents c.args.writer.now) (contents l.writer) (contents c.say_reply.new.writer) h.1 (written (text_of_outcome o)) h.3 grown,
    ) in
    subst Told (sym more) (elim c.in_ok-say_reply.ensures.written [
      | inl grown ↦ by (replied k.reply) (inl refl) (subst (λ (x : Call). Appends (contents l.writer) (contents c.say_reply.new.writer) (written (text_of_outcome (replied x.reply)))) c.as_call.ensures grown)
      | inr grown ↦ by (untold k.reply) (inr refl) (subst (λ (x : Call). Appends (contents l.writer) (contents c.say_reply.new.writer) (written (text_of_outcome (untold x.reply)))) c.as_call.ensures grown)
    ])
