use Rattle.std.proofs.Common.{map, string_bytes}
use Rattle.script_reports.proofs.Testing.{tests_more}
use Rattle.script_reports.proofs.suites.text_of_tests.Goals as goal

pub loop-place-preserved : goal.loop-place-preserved
loop-place-preserved c =
    let l = c.loop-place in
    tests_more c.args.suite.now (map string_bytes c.args.replies.now) c.args.lines.now l.place c.index-lines-place.result c.reply_at.result.now (string_bytes l.text) (string_bytes c.in_ok-test.test) (string_bytes c.push_str.new.self)
    c.loop-place-test.true c.index-lines-place.is c.reply_at.ensures l.invariant c.in_ok-test.ensures (rw c.as_str.ensures.value at c.in_ok-push_str.ensures.bytes)
