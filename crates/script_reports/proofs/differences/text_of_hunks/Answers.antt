use Rattle.std.proofs.Common.{◌≡◌, [], true, false, sym, map, get_or, string_bytes, arith}
use Rattle.giotto_tasks.specs.Names.{same_name}
use Rattle.script_reports.proofs.Comparing.{same_further, differs_further, at_end}
use Rattle.script_reports.proofs.differences.text_of_hunks.Goals as goal

pub loop-place-preserved-then-eq : goal.loop-place-preserved-then-eq
loop-place-preserved-then-eq c =
    let l = c.loop-place in
    let line = c.index-lines-place.result in
    let same : same_name (get_or (map string_bytes c.args.replies.now) l.place []) line.reply ≡ true = rw (c.reply_at-reply.ensures, c.reply.ensures) at (sym c.if-eq.ensures) in
    same_further (map string_bytes c.args.replies.now) c.args.lines.now l.place l.came l.wanted line c.loop-place-test.true c.index-lines-place.is (string_bytes l.text) _ same l.invariant

pub loop-place-preserved : goal.loop-place-preserved
loop-place-preserved c =
    let l = c.loop-place in
    let line = c.index-lines-place.result in
    let other : same_name (get_or (map string_bytes c.args.replies.now) l.place []) line.reply ≡ false = rw (c.reply_at-reply.ensures, c.reply.ensures) at (sym c.if-eq.ensures) in
    differs_further (map string_bytes c.args.replies.now) c.args.lines.now l.place l.came l.wanted line c.loop-place-test.true c.index-lines-place.is
    c.reply_at-reply.result.now (string_bytes l.text) (string_bytes c.in_ok-hunk.hunk) (string_bytes c.push_str.new.self) _ c.saturating_add-came.result c.saturating_add-wanted.result c.reply_at-reply.ensures other
    (rw (c.saturating_sub-at.ensures, c.saturating_add.ensures, c.number.ensures) at c.in_ok-hunk.ensures)
    (rw c.count.ensures at c.saturating_add-came.ensures)
    (rw (c.count-in-loop-place.ensures, c.reply-in-loop-place.ensures) at c.saturating_add-wanted.ensures)
    (rw c.as_str.ensures.value at c.in_ok-push_str.ensures.bytes) l.invariant

pub returns : goal.returns
returns c =
    let l = c.loop-place in
    at_end (map string_bytes c.args.replies.now) c.args.lines.now l.place l.came l.wanted (string_bytes l.text) _ (omega (arith, c.loop-place-test.false)) l.invariant
