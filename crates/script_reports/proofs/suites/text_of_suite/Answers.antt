use Rattle.std.proofs.Common.{refl, map, subst, string_bytes}
use Rattle.script_reports.specs.inner.Suites.{AreTests}
use Rattle.script_reports.proofs.Testing.{told}
use Rattle.script_reports.proofs.suites.text_of_suite.Goals as goal

pub returns : goal.returns
returns c =
    let replies = map string_bytes c.args.replies.now in
    let tests = string_bytes c.in_ok-tests.tests in
    told c.format.result c.args.name.now (string_bytes c.in_ok-name.name) tests c.args.lines.now replies _ _ c.in_ok-name.ensures
    (subst (λ suite. AreTests suite replies 0 c.args.lines.now tests) c.as_str.ensures.value c.in_ok-tests.ensures) refl c.failures-failures.ensures c.format.ensures.ok
