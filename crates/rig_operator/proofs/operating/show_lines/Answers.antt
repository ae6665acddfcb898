use Rattle.std.proofs.Common.{[], ◌∷◌, ap, refl, subst, ◌∙◌, OnOk}
use Rattle.std.specs.Io.KnownBytes.{Appends}
use Rattle.rig_operator.specs.Asked.{driven, undriven}
use Rattle.rig_model.specs.OperatorLines.{line_values}
use Rattle.rig_operator.specs.Operation.IsAnswered.{no_reply, no_values, values}
use Rattle.rig_operator.specs.Replies.{err_memory, lines_reply}
use Rattle.rig_operator.proofs.Replying.{replied}
use Rattle.rig_operator.proofs.operating.show_lines.Goals as goal

pub returns-in_default : goal.returns-in_default
returns-in_default g c = λ number.
    let contents = g.W.Write.contents in
    replied _ number number line_values (contents c.args.writer.now) (contents c.say.new.writer) c.say.result (undriven ∷ []) err_memory c.say.ensures.written c.say.ensures.fault c.in_default.ensures.undriven no_values refl

pub returns-in-Ok-lines_reply : goal.returns-in-Ok-lines_reply
returns-in-Ok-lines_reply g c = λ number.
    let contents = g.W.Write.contents in
    let said = c.say-in-Ok-lines_reply in
    let items = c.in-Ok.values.items in
    let written = subst (λ text. OnOk said.result (Appends (contents c.args.writer.now) (contents said.new.writer) text)) (c.as_str.ensures.value ∙ c.in-Ok-lines_reply.ensures ∙ ap lines_reply c.deref.ensures.value) said.ensures.written in
    replied _ number number line_values (contents c.args.writer.now) (contents said.new.writer) said.result (driven items ∷ []) (lines_reply items) written said.ensures.fault c.in-Ok.ensures.driven (values items) refl

pub returns : goal.returns
returns g c = λ number.
    let contents = g.W.Write.contents in
    let said = c.say-in-Err in
    let items = c.in-Ok.values.items in
    replied _ number number line_values (contents c.args.writer.now) (contents said.new.writer) said.result (driven items ∷ []) err_memory said.ensures.written said.ensures.fault c.in-Ok.ensures.driven (no_reply items) refl
