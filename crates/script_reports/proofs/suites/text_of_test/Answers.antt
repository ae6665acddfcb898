use Rattle.std.proofs.Common.{◌≡◌, true, false, sym, ap, subst, ◌∙◌, string_bytes}
use Rattle.giotto_tasks.specs.Names.{same_name}
use Rattle.script_reports.specs.cited.Reports.{first_words}
use Rattle.script_reports.specs.inner.Differences.{text_of_changes}
use Rattle.script_reports.specs.inner.Suites.{IsEscaped}
use Rattle.script_reports.proofs.Testing.{passes, fails}
use Rattle.script_reports.proofs.suites.text_of_test.Goals as goal

pub returns-then-eq : goal.returns-then-eq
returns-then-eq c =
    let words = string_bytes c.in_ok-words-2.words in
    let begins : IsEscaped (first_words c.args.line.now.text) words = subst (λ t. IsEscaped t words) (c.as_str.ensures.value ∙ (c.in_ok-words.ensures ∙ ap first_words c.text.ensures)) c.in_ok-words-2.ensures in
    let same : same_name c.args.line.now.reply c.args.came.now ≡ true = rw c.reply.ensures at (sym c.if-eq.ensures) in
    passes c.format.result c.args.suite.now c.args.came.now words c.args.line.now begins same (rw c.number-number.ensures at c.format.ensures.ok)

pub returns : goal.returns
returns c =
    let words = string_bytes c.in_ok-words-2.words in
    let changes = string_bytes c.in_ok-changes-2.changes in
    let begins : IsEscaped (first_words c.args.line.now.text) words = subst (λ t. IsEscaped t words) (c.as_str.ensures.value ∙ (c.in_ok-words.ensures ∙ ap first_words c.text.ensures)) c.in_ok-words-2.ensures in
    let differs : IsEscaped (text_of_changes c.args.line.now.reply c.args.came.now) changes =
    subst (λ t. IsEscaped t changes) (c.as_str-2.ensures.value ∙ (c.in_ok-changes.ensures ∙ ap (λ w. text_of_changes w c.args.came.now) c.reply-2.ensures)) c.in_ok-changes-2.ensures in
    let other : same_name c.args.line.now.reply c.args.came.now ≡ false = rw c.reply.ensures at (sym c.if-eq.ensures) in
    fails c.format-2.result c.args.suite.now c.args.came.now words c.args.line.now begins changes differs other (rw c.number-number.ensures at c.format-2.ensures.ok)
