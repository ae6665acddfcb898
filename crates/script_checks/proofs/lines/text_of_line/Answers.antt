use Rattle.std.proofs.Common.{◌≡◌, ◌≤◌, ◌∙◌, Some, IsUtf8, length, sym, ap, arith}
use Rattle.std.proofs.lemmas.Bool.Decides.{nat_tests}
use Rattle.rig_model.specs.TextLines.{without_last_cr}
use Rattle.rig_model.specs.declared.limits.TheConstants.{MAX_LINE}
use Rattle.script_checks.proofs.Texts.{text_of_text, text_of_no_text}
use Rattle.script_checks.proofs.lines.text_of_line.Goals as goal

pub returns-in-Ok : goal.returns-in-Ok
returns-in-Ok c =
    let short : length c.args.line.now ≤ MAX_LINE = grind (arith, nat_tests, c.if-line-gt-MAX_LINE.false) in
    let cases : (c.in-Ok.text.now ≡ c.args.line.now) × IsUtf8 c.args.line.now = c.in-Ok.ensures.cases in
    ap (λ t. Some t) (c.without_last_cr.ensures ∙ ap without_last_cr cases.0) ∙ sym (text_of_text c.args.line.now short cases.1)

pub returns-in-Err : goal.returns-in-Err
returns-in-Err c = sym (text_of_no_text c.args.line.now c.in-Err.ensures.cases.0)
