use Rattle.std.proofs.Common.{◌≡◌, ◌∙◌, ◌∷◌, false, Ok, List, ℕ, codes, refl, sym, ap, subst}
use Rattle.rig_model.specs.OperatorLines.{line_values, work, work_of, operator_line_of, form_of}
use Rattle.rig_model.specs.declared.events.Event.{Event}
use Rattle.rig_model.specs.declared.operator_lines.OperatorLine.{OperatorLine}
use Rattle.rig_model.specs.declared.operator_lines.OperatorLine.TheVariants as code
use Rattle.rig_model.specs.Answered.{reply_line}
use Rattle.rig_model.specs.Base.{Setting}
use Rattle.rig_model.specs.Script.{lines_step, only_answered, operator, operator_step, outstanding_after, work_step, work_step_of}
use Rattle.rig_model.specs.lines.Words.{words_of}
use Rattle.rig_script.specs.cited.HostAnswers.{Adds, IsHostAfter}
use Rattle.rig_script.specs.inner.Script.{IsCarriedOut}
use Rattle.rig_script.proofs.Steps.{lines_told, none_told, operator_refused}
use Rattle.rig_script.proofs.host_answers.operator_step.Goals as goal

-- a line of none of a script's forms
refused : (setting : Setting) (past : List Event) (words : List (List ℕ)) (line : OperatorLine) → ((values : _) → line ≡ code.Tick values → ⊥) → (line ≡ code.Lines → ⊥) → (line ≡ code.Work → ⊥)
    → ((name : _) → line ≡ code.WorkOf name → ⊥) → form_of line ≡ operator_line_of words → operator_step setting past words ≡ only_answered (reply_line operator (codes "err bad-command"))
refused setting past words code.Blank no_tick no_lines no_work no_work_of e = rw (sym e) refl
refused setting past words (code.Tick values) no_tick no_lines no_work no_work_of e = absurd (no_tick values refl)
refused setting past words code.Lines no_tick no_lines no_work no_work_of e = absurd (no_lines refl)
refused setting past words code.Work no_tick no_lines no_work no_work_of e = absurd (no_work refl)
refused setting past words (code.WorkOf name) no_tick no_lines no_work no_work_of e = absurd (no_work_of name refl)
refused setting past words code.Wait no_tick no_lines no_work no_work_of e = rw (sym e) refl
refused setting past words code.Archive no_tick no_lines no_work no_work_of e = rw (sym e) refl
refused setting past words code.Halt no_tick no_lines no_work no_work_of e = rw (sym e) refl
refused setting past words code.BadCommand no_tick no_lines no_work no_work_of e = rw (sym e) refl

pub returns-in-Tick : goal.returns-in-Tick
returns-in-Tick g c = λ setting past h.
    let words = words_of c.args.line.now in
    let spoken = codes "tick" ∷ words_of c.in-Tick.values.now in
    let form : operator_line_of words ≡ operator_line_of spoken = sym c.operator_line.ensures ∙ ap form_of c.in-Tick.is in
    let steps : operator_step setting past words ≡ operator_step setting past spoken = rw form refl in
    subst (λ s. IsCarriedOut s past (g.R.Record.has_recorded c.args.events.now) (g.R.Record.has_recorded c.tick.new.events) c.tick.result (Adds c.args.text.now c.tick.new.text) (IsHostAfter setting c.tick.new.host)) (sym steps) (c.tick.ensures setting past h)

pub returns-in_ok-add_line_values-in-Lines : goal.returns-in_ok-add_line_values-in-Lines
returns-in_ok-add_line_values-in-Lines g c = λ setting past h.
    let words = words_of c.args.line.now in
    let told = g.R.Record.has_recorded c.args.events.now in
    let form : operator_line_of words ≡ line_values = sym c.operator_line.ensures ∙ ap form_of c.in-Lines.is in
    let steps : operator_step setting past words ≡ lines_step setting past = rw form refl in
    subst (λ s. IsCarriedOut s past told told (Ok false) (Adds c.args.text.now c.add_line_values.new.text) (IsHostAfter setting c.args.host.now)) (sym steps)
    (lines_told setting past c.args.host.now c.args.host.now h (Ok false) told told (Adds c.args.text.now c.add_line_values.new.text) refl _ c.in_ok-add_line_values-in-Lines.ensures refl (none_told told) refl)

pub returns-in-Work : goal.returns-in-Work
returns-in-Work g c = λ setting past h.
    let words = words_of c.args.line.now in
    let form : operator_line_of words ≡ work = sym c.operator_line.ensures ∙ ap form_of c.in-Work.is in
    let steps : operator_step setting past words ≡ work_step (outstanding_after setting past) = rw form refl in
    subst (λ s. IsCarriedOut s past (g.R.Record.has_recorded c.args.events.now) (g.R.Record.has_recorded c.complete_all.new.events) c.complete_all.result (Adds c.args.text.now c.complete_all.new.text) (IsHostAfter setting c.complete_all.new.host)) (sym steps) (c.complete_all.ensures setting past h)

pub returns-in-WorkOf : goal.returns-in-WorkOf
returns-in-WorkOf g c = λ setting past h.
    let words = words_of c.args.line.now in
    let form : operator_line_of words ≡ work_of c.in-WorkOf.name.now = sym c.operator_line.ensures ∙ ap form_of c.in-WorkOf.is in
    let steps : operator_step setting past words ≡ work_step_of setting past c.in-WorkOf.name.now = rw form refl in
    subst (λ s. IsCarriedOut s past (g.R.Record.has_recorded c.args.events.now) (g.R.Record.has_recorded c.complete_tenant.new.events) c.complete_tenant.result (Adds c.args.text.now c.complete_tenant.new.text) (IsHostAfter setting c.complete_tenant.new.host)) (sym steps) (c.complete_tenant.ensures setting past h)

pub returns-in_default : goal.returns-in_default
returns-in_default g c = λ setting past h.
    let told = g.R.Record.has_recorded c.args.events.now in
    let no = c.in_default in
    let steps = refused setting past (words_of c.args.line.now) c.operator_line.result no.not-Tick no.not-Lines no.not-Work no.not-WorkOf c.operator_line.ensures in
    subst (λ s. IsCarriedOut s past told told c.refuse.result (Adds c.args.text.now c.refuse.new.text) (IsHostAfter setting c.args.host.now)) (sym steps)
    (operator_refused setting past c.args.host.now c.args.host.now h c.refuse.result told told _ refl c.refuse.ensures.reply c.refuse.ensures.refused (none_told told))
