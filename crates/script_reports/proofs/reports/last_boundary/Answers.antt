use Rattle.std.proofs.Common.{◌≡◌, ◌<◌, ◌∙◌, subst, sym, arith}
use Rattle.std.proofs.lemmas.Str.{IsCharBoundary-start}
use Rattle.std.specs.Str.{IsCharBoundary}
use Rattle.script_reports.proofs.ReportLines.{boundary_before}
use Rattle.script_reports.proofs.reports.last_boundary.Goals as goal

pub loop-end-preserved : goal.loop-end-preserved
loop-end-preserved c =
    let some : 0 < c.loop-end.end = omega (arith, c.loop-end-test.true) in
    c.loop-end.invariant ∙ boundary_before c.args.text.now c.loop-end.end some (λ h. let wrong = c.if-not-is_char_boundary.ensures.test.1 h in absurd (cc))

pub returns-after-loop-end-clause-boundary : goal.returns-after-loop-end-clause-boundary
returns-after-loop-end-clause-boundary c =
    let start : c.loop-end.end ≡ 0 = omega (arith, c.loop-end-test.false) in
    subst (IsCharBoundary c.args.text.now) (sym start) (IsCharBoundary-start c.args.text.now c.utf8.text)
