use Rattle.std.proofs.Common.{[], ◌∷◌, refl, subst, ◌∙◌, OnOk}
use Rattle.std.specs.Io.KnownBytes.{Appends}
use Rattle.rig_operator.specs.Asked.{archived, unarchived}
use Rattle.rig_model.specs.OperatorLines.{archive}
use Rattle.rig_operator.specs.Operation.IsAnswered.{kept, not_kept}
use Rattle.rig_operator.specs.Replies.{archive_refusal, archive_reply}
use Rattle.rig_operator.proofs.Replying.{replied}
use Rattle.rig_operator.proofs.operating.archive.Goals as goal

pub returns-in-Ok : goal.returns-in-Ok
returns-in-Ok g c = λ number.
    let contents = g.W.Write.contents in
    let entries = c.in-Ok.entries in
    let written = subst (λ text. OnOk c.say.result (Appends (contents c.args.writer.now) (contents c.say.new.writer) text)) (c.as_str.ensures.value ∙ c.archive_reply.ensures) c.say.ensures.written in
    replied _ number number archive (contents c.args.writer.now) (contents c.say.new.writer) c.say.result (archived entries ∷ []) (archive_reply entries) written c.say.ensures.fault c.in-Ok.ensures.archived (kept entries) refl

pub returns-in-Err : goal.returns-in-Err
returns-in-Err g c = λ number.
    let contents = g.W.Write.contents in
    let fault = c.in-Err.fault in
    let said = c.say-in-Err in
    let written = subst (λ text. OnOk said.result (Appends (contents c.args.writer.now) (contents said.new.writer) text)) c.archive_refusal.ensures said.ensures.written in
    replied _ number number archive (contents c.args.writer.now) (contents said.new.writer) said.result (unarchived fault ∷ []) (archive_refusal fault) written said.ensures.fault c.in-Err.ensures.unarchived (not_kept fault) refl
