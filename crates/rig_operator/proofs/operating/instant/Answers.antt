use Rattle.std.proofs.Common.{[], ◌∷◌, map, refl, subst, ◌∙◌, OnOk}
use Rattle.std.specs.Io.KnownBytes.{Appends}
use Rattle.rig_operator.specs.Asked.{completed, given, refused, sent}
use Rattle.rig_model.specs.OperatorLines.{tick}
use Rattle.rig_operator.specs.Operation.IsAnswered.{instant, no_instant}
use Rattle.rig_operator.specs.Replies.{refusal, tick_reply}
use Rattle.rig_operator.proofs.Adding.{adds_both}
use Rattle.rig_operator.proofs.Replying.{next_number, replied}
use Rattle.rig_operator.proofs.operating.instant.Goals as goal

pub returns-in-Ok : goal.returns-in-Ok
returns-in-Ok g c =
    let contents = g.W.Write.contents in
    let asked = g.G.Rig.asked in
    let number = c.args.number.now in
    let frame = c.args.frame.now in
    let jobs = c.in-Ok.jobs.jobs in
    let unsent = c.send-unsent.result.jobs in
    let questions = adds_both (asked c.args.rig.now) (asked c.send-unsent.new.self) (asked c.complete.new.rig) (given frame jobs ∷ sent jobs unsent ∷ []) (map completed unsent)
    (adds_both (asked c.args.rig.now) (asked c.tick.new.self) (asked c.send-unsent.new.self) (given frame jobs ∷ []) (sent jobs unsent ∷ []) c.in-Ok.ensures.given c.send-unsent.ensures) c.complete.ensures in
    let written = subst (λ text. OnOk c.say.result (Appends (contents c.args.writer.now) (contents c.say.new.writer) text)) (c.as_str.ensures.value ∙ c.tick_reply-reply.ensures) c.say.ensures.written in
    replied _ number c.saturating_add.result (tick frame) (contents c.args.writer.now) (contents c.say.new.writer) c.say.result (given frame jobs ∷ sent jobs unsent ∷ map completed unsent) (tick_reply number)
    written c.say.ensures.fault questions (instant frame jobs unsent) (next_number number c.saturating_add.result frame jobs unsent c.saturating_add.ensures)

pub returns-in-Err : goal.returns-in-Err
returns-in-Err g c =
    let contents = g.W.Write.contents in
    let number = c.args.number.now in
    let frame = c.args.frame.now in
    let said = c.say-in-Err in
    let written = subst (λ text. OnOk said.result (Appends (contents c.args.writer.now) (contents said.new.writer) text)) c.refusal.ensures said.ensures.written in
    replied _ number number (tick frame) (contents c.args.writer.now) (contents said.new.writer) said.result (refused frame c.in-Err.fault ∷ []) (refusal c.in-Err.fault)
    written said.ensures.fault c.in-Err.ensures.refused (no_instant frame c.in-Err.fault) refl
