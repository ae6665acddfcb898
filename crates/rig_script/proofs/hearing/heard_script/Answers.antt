use Rattle.std.proofs.Common.{Ok, Err, IfErr, refl, sym, ap, subst, ◌∙◌}
use Rattle.std.proofs.lemmas.Result.{err_from_is_err_and}
use Rattle.std.specs.Io.KnownBytes.{Appends}
use Rattle.rig_script.proofs.HeardLines.{broken_by_fault, broken_by_listener, course_at_end, heard_at_end, host_at_end, written_at_end}
use Rattle.rig_script.specs.cited.Heard.{ForHostReading, IsHeardBrokenOff}
use Rattle.rig_script.proofs.hearing.heard_script.Goals as goal

pub returns-in_err-ending-clause-fault : goal.returns-in_err-ending-clause-fault
returns-in_err-ending-clause-fault g c =
    let left = g.R.Read.remaining in
    let heard = g.L.Listener.heard in
    let later = c.answer_lines.new.answers in
    let Written = Appends (g.W.Write.contents c.args.writer.now) (g.W.Write.contents c.answer_lines.new.writer) in
    let failed = err_from_is_err_and c.from_residual.result c.from_residual.ensures.1 in
    subst (λ r. IfErr r (λ f. ForHostReading c.args.host (left c.args.reader.now) (IsHeardBrokenOff (left c.answer_lines.new.reader) Written f))) (sym (failed.1 ∙ ap (λ f. Err f) failed.2))
    (broken_by_fault c.args.host later.host later.answered later.has_tenant later.is_whole (heard c.args.listener) (heard later.listener) c.requires c.in_err-ending.field-0.0 (left c.args.reader.now) (left c.answer_lines.new.reader) Written
    c.in_err-ending.ensures.fault)

pub returns-then-not-is_whole-clause-fault : goal.returns-then-not-is_whole-clause-fault
returns-then-not-is_whole-clause-fault g c =
    let left = g.R.Read.remaining in
    let heard = g.L.Listener.heard in
    let later = c.answer_lines.new.answers in
    let Written = Appends (g.W.Write.contents c.args.writer.now) (g.W.Write.contents c.answer_lines.new.writer) in
    broken_by_listener c.args.host later.host later.answered later.has_tenant later.is_whole (heard c.args.listener) (heard later.listener) c.requires (left c.args.reader.now) (left c.answer_lines.new.reader) Written
    c.in_ok-ending.ensures.written

pub returns-clause-written : goal.returns-clause-written
returns-clause-written g c =
    let heard = g.L.Listener.heard in
    let later = c.answer_lines.new.answers in
    written_at_end c.args.host later.host later.answered later.has_tenant later.is_whole (heard c.args.listener) (heard later.listener) c.requires (g.R.Read.remaining c.args.reader.now)
    (Appends (g.W.Write.contents c.args.writer.now) (g.W.Write.contents c.answer_lines.new.writer)) c.in_ok-ending.ensures.written

pub returns-clause-heard : goal.returns-clause-heard
returns-clause-heard g c =
    let heard = g.L.Listener.heard in
    let later = c.answer_lines.new.answers in
    heard_at_end c.args.host later.host later.answered later.has_tenant later.is_whole (heard c.args.listener) (heard later.listener) c.requires (g.R.Read.remaining c.args.reader.now) c.in_ok-ending.ensures.state
    c.if-not-is_whole.false

pub returns-clause-course : goal.returns-clause-course
returns-clause-course g c =
    let left = g.R.Read.remaining in
    let heard = g.L.Listener.heard in
    let later = c.answer_lines.new.answers in
    course_at_end c.args.host later.host later.answered later.has_tenant later.is_whole (heard c.args.listener) (heard later.listener) c.requires (left c.args.reader.now) (left c.answer_lines.new.reader) c.in_ok-ending.ending
    (Ok c.in_ok-ending.ending) refl c.in_ok-ending.ensures.input c.in_ok-ending.ensures.bad_line c.in_ok-ending.ensures.state c.course_of.result c.course_of.ensures.line c.course_of.ensures.tenant

pub returns-clause-host : goal.returns-clause-host
returns-clause-host g c =
    let heard = g.L.Listener.heard in
    let later = c.answer_lines.new.answers in
    host_at_end c.args.host later.host later.answered later.has_tenant later.is_whole (heard c.args.listener) (heard later.listener) c.requires (g.R.Read.remaining c.args.reader.now) c.in_ok-ending.ensures.state
