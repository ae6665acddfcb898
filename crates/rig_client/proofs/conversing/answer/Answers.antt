use Rattle.std.proofs.Common.{◌≡◌, refl, sym, ap, inr, ◌∙◌, Some}
use Rattle.std.proofs.lemmas.Result.{IfOk-weaker}
use Rattle.std.specs.Option.{option_map}
use Rattle.rig_client.specs.UserLines.{blank, kind_of, of_file, user_line_of}
use Rattle.rig_client.proofs.LineAnswers.{as_it_was}
use Rattle.rig_client.proofs.conversing.answer.Goals as goal

pub returns-in-Blank : goal.returns-in-Blank
returns-in-Blank g c =
    let line : user_line_of c.args.line.now ≡ blank = sym c.user_line.ensures ∙ ap kind_of c.in-Blank.is in
    rw (line) (refl, as_it_was (g.O.Write.contents c.args.user.now.output), refl)

pub returns-in-Ok : goal.returns-in-Ok
returns-in-Ok g c =
    let at = c.in-OfFile-default-Some in
    let line : user_line_of c.args.line.now ≡ of_file at.command (Some at.path.now) = sym c.user_line.ensures ∙ ap kind_of at.is ∙ ap (λ p. of_file at.command (option_map (λ b. b.now) p)) at.field-1-is in
    let sent = c.in-Ok.ensures in
    let requested = rw (c.as_str-in-Ok.ensures.value, sent.1) at c.request_file.ensures in
    rw (line) (IfOk-weaker c.request_file.result _ _ (λ kind done. inr (sent.0, done)) requested)
