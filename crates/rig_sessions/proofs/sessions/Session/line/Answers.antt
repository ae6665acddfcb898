use Rattle.std.proofs.Common.{◌≡◌, ◌<◌, ℕ, false, List, [], length, codes, IfOk, IsErr, refl, sym, ap, ◌∙◌, subst, arith}
use Rattle.std.proofs.lemmas.Bool.{false≢true}
use Rattle.std.proofs.lemmas.Bool.Decides.{nat_tests}
use Rattle.giotto_tasks.specs.Names.{same_name}
use Rattle.giotto_tasks.proofs.cited.NameLemmas.{same_name_is, same_name_self}
use Rattle.rig_model.specs.lines.Words.{words_of}
use Rattle.rig_model.specs.Sessions.{form_step, hello_of, quit_of}
use Rattle.rig_sessions.specs.inner.Steps.{IsStep, IsCallWithText}
use Rattle.rig_sessions.proofs.SessionLines.{blank_line, hello_line, quit_line, other_line, form_blank, no_byte, some_word}
use Rattle.rig_sessions.proofs.sessions.Session.line.Goals as goal

-- two words for which the test is false are different
differ : (x y : List ℕ) → false ≡ same_name x y → x ≡ y → ⊥
differ x y other is = false≢true (other ∙ ap (same_name x) (sym is) ∙ same_name_self x)

pub returns-then-is_empty-clause-step : goal.returns-then-is_empty-clause-step
returns-then-is_empty-clause-step c =
    let s = c.args.self.now in
    let word = c.cut.result.0.now in
    let none : word ≡ [] = no_byte word (grind (arith, nat_tests, c.if-is_empty.ensures)) in
    (ap (form_step s.config s.state) (blank_line c.args.line.now (sym c.cut.ensures.word ∙ none)) ∙ form_blank s.config s.state, refl)

pub returns-then-is_word-clause-step : goal.returns-then-is_word-clause-step
returns-then-is_word-clause-step c =
    let s = c.args.self.now in
    let first = sym c.cut.ensures.word ∙ same_name_is c.cut.result.0.now (codes "hello") (sym c.if-is_word.ensures) in
    let is = hello_line c.args.line.now first ∙ ap (λ r. hello_of (words_of r)) (sym c.cut.ensures.rest) in
    (ap (form_step s.config s.state) is ∙ c.hello.ensures.0, c.hello.ensures.1)

pub returns-then-is_word-2-clause-step : goal.returns-then-is_word-2-clause-step
returns-then-is_word-2-clause-step c =
    let s = c.args.self.now in
    let first = sym c.cut.ensures.word ∙ same_name_is c.cut.result.0.now (codes "quit") (sym c.if-is_word-2.ensures) in
    let is = quit_line c.args.line.now first ∙ ap (λ r. quit_of (words_of r)) (sym c.cut.ensures.rest) in
    (ap (form_step s.config s.state) is ∙ c.quit.ensures.0, c.quit.ensures.1)

pub returns-clause-step : goal.returns-clause-step
returns-clause-step c =
    let s = c.args.self.now in
    let word = c.cut.result.0.now in
    let some : 0 < length word = grind (arith, nat_tests, c.if-is_empty.ensures) in
    let is = other_line c.args.line.now (λ is. some_word word some (c.cut.ensures.word ∙ is)) (λ is. differ word (codes "hello") c.if-is_word.ensures (c.cut.ensures.word ∙ is)) (λ is. differ word (codes "quit") c.if-is_word-2.ensures (c.cut.ensures.word ∙ is)) in
    subst (λ f. IfOk c.command.result (λ step. IsStep step s c.command.new.self f)) (sym (ap (form_step s.config s.state) is)) c.command.ensures.step

pub returns-clause-memory : goal.returns-clause-memory
returns-clause-memory c =
    let s = c.args.self.now in
    let word = c.cut.result.0.now in
    let some : 0 < length word = grind (arith, nat_tests, c.if-is_empty.ensures) in
    let is = other_line c.args.line.now (λ is. some_word word some (c.cut.ensures.word ∙ is)) (λ is. differ word (codes "hello") c.if-is_word.ensures (c.cut.ensures.word ∙ is)) (λ is. differ word (codes "quit") c.if-is_word-2.ensures (c.cut.ensures.word ∙ is)) in
    subst (λ f. IsErr c.command.result → IsCallWithText f s.state) (sym (ap (form_step s.config s.state) is)) c.command.ensures.memory
