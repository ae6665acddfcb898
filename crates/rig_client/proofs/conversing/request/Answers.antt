use Rattle.std.proofs.KnownBytes.{Appends-kept}
use Rattle.rig_client.proofs.conversing.request.Goals as goal

pub returns : goal.returns
returns g c =
    let contents = g.O.Write.contents in
    let shown = rw (c.in_ok-answer.ensures.quiet, c.as_slice.ensures.value) at c.in_ok-kind.ensures in
    let answer = c.in_ok-answer.answer.items in
    (answer, c.in_ok-answer.ensures.answer, Appends-kept (contents c.args.user.now.output) (contents c.show.new.user.output) (contents c.remark.new.self.output) answer shown.0 c.remark.ensures.kept, shown.1)
