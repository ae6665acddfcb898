use Rattle.std.proofs.Common.{◌≡◌, ◌<◌, ◌==◌, true, false, length, refl, sym, ap, ◌∙◌, arith}
use Rattle.std.proofs.lemmas.Bool.Decides.{nat_tests}
use Rattle.rig_model.specs.lines.Words.{first_word_of}
use Rattle.rig_model.specs.Sessions.{form_step, ended}
use Rattle.rig_sessions.proofs.SessionLines.{quit_alone, quit_refused, form_quit, form_refused}
use Rattle.rig_sessions.proofs.sessions.Session.quit.Goals as goal

pub returns-then-not-is_empty : goal.returns-then-not-is_empty
returns-then-not-is_empty c =
    let s = c.args.self.now in
    let is : (length c.first_word.result.now == 0) ≡ false = sym c.is_empty.ensures ∙ c.if-not-is_empty.true in
    let some : 0 < length c.first_word.result.now = grind (arith, nat_tests, is) in
    let more : 0 < length (first_word_of c.args.rest.now) = rw (← c.first_word.ensures) some in
    let other : s.state ≡ ended → ⊥ = λ e. let yes = c.has_ended.ensures.1 e in let no = c.if-has_ended.false in absurd (cc) in
    (ap (form_step s.config s.state) (quit_refused c.args.rest.now more) ∙ form_refused s.config s.state other, refl)

pub returns : goal.returns
returns c =
    let s = c.args.self.now in
    let is : (length c.first_word.result.now == 0) ≡ true = sym c.is_empty.ensures ∙ c.if-not-is_empty.false in
    let none : length c.first_word.result.now ≡ 0 = grind (arith, nat_tests, is) in
    let alone = sym (ap length c.first_word.ensures) ∙ none in
    let other : s.state ≡ ended → ⊥ = λ e. let yes = c.has_ended.ensures.1 e in let no = c.if-has_ended.false in absurd (cc) in
    (ap (form_step s.config s.state) (quit_alone c.args.rest.now alone) ∙ form_quit s.config s.state other, let same = c.self.view_is in cc)
