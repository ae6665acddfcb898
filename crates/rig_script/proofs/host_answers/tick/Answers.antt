use Rattle.std.proofs.Common.{◌≡◌, ◌∷◌, Some, None, codes, refl, ap, subst, ◌∙◌, sym}
use Rattle.rig_model.specs.Answered.{reply_line}
use Rattle.rig_model.specs.Script.{only_answered, operator, operator_step, tick_step}
use Rattle.rig_model.specs.lines.Words.{words_of, values_of_words}
use Rattle.rig_script.specs.cited.HostAnswers.{Adds, IsHostAfter}
use Rattle.rig_script.specs.inner.Script.{IsCarriedOut}
use Rattle.rig_script.proofs.Steps.{operator_refused, none_told}
use Rattle.rig_script.proofs.host_answers.tick.Goals as goal

pub returns-in-Some : goal.returns-in-Some
returns-in-Some g c = λ setting past h.
    let words = words_of c.args.values.now in
    let values : values_of_words words ≡ Some c.in-Some.frame.items = rw c.in-Some.is at (sym c.in_ok-frame.ensures.values) in
    let values : values_of_words words ≡ Some c.as_slice.result.now = values ∙ ap (λ l. Some l) (sym c.as_slice.ensures) in
    let steps : operator_step setting past (codes "tick" ∷ words) ≡ tick_step setting past c.as_slice.result.now = rw values refl in
    subst (λ s. IsCarriedOut s past (g.R.Record.has_recorded c.args.events.now) (g.R.Record.has_recorded c.instant.new.events) c.instant.result (Adds c.args.text.now c.instant.new.text) (IsHostAfter setting c.instant.new.host)) (sym steps) (c.instant.ensures setting past h)

pub returns-in-None : goal.returns-in-None
returns-in-None g c = λ setting past h.
    let told = g.R.Record.has_recorded c.args.events.now in
    let words = words_of c.args.values.now in
    let none : values_of_words words ≡ None = rw c.in-None.is at (sym c.in_ok-frame.ensures.values) in
    let reply = reply_line operator (codes "err bad-command") in
    let steps : operator_step setting past (codes "tick" ∷ words) ≡ only_answered reply = rw none refl in
    subst (λ s. IsCarriedOut s past told told c.refuse.result (Adds c.args.text.now c.refuse.new.text) (IsHostAfter setting c.args.host.now)) (sym steps)
    (operator_refused setting past c.args.host.now c.args.host.now h c.refuse.result told told _ refl c.refuse.ensures.reply c.refuse.ensures.refused (none_told told))
