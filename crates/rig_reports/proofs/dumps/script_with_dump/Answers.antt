use Rattle.std.proofs.Common.{Err, IfErr, sym, ap, subst, ◌∙◌}
use Rattle.std.proofs.lemmas.Result.{err_from_is_err_and}
use Rattle.std.specs.Io.KnownBytes.{Appends}
use Rattle.rig_model.specs.Script.{script_text_of}
use Rattle.rig_script.specs.BrokenOff.{ForNewHostReading}
use Rattle.rig_script.specs.cited.Heard.{IsHeardBrokenOff}
use Rattle.rig_script.proofs.cited.NewScript.{from_new_host}
use Rattle.rig_reports.proofs.BrokenOff.{broken_at_end, broken_with_listener}
use Rattle.rig_reports.specs.inner.Watched.{IsWatchedBrokenOff}
use Rattle.rig_reports.proofs.dumps.script_with_dump.Goals as goal

pub returns-clause-written : goal.returns-clause-written
returns-clause-written g c =
    let Written = Appends (g.W.Write.contents c.args.writer.now) (g.W.Write.contents c.heard_script.new.writer) in
    from_new_host c.in_ok-host.host c.args.config.now c.in_ok-host.ensures.base (g.R.Read.remaining c.args.reader.now) (λ setting bytes. Written (script_text_of setting bytes)) c.in_ok-heard.ensures.written

pub returns-in_err-heard-clause-fault : goal.returns-in_err-heard-clause-fault
returns-in_err-heard-clause-fault g c =
    let left = g.R.Read.remaining in
    let config = c.args.config.now in
    let Written = Appends (g.W.Write.contents c.args.writer.now) (g.W.Write.contents c.heard_script.new.writer) in
    let failed = err_from_is_err_and c.from_residual-in_err-heard.result c.from_residual-in_err-heard.ensures.1 in
    let fault = c.in_err-heard.field-0.0 in
    subst (λ r. IfErr r (λ f. ForNewHostReading config (left c.args.reader.now) (IsWatchedBrokenOff (left c.heard_script.new.reader) Written f))) (sym (failed.1 ∙ ap (λ f. Err f) failed.2))
    (broken_with_listener config (left c.args.reader.now) (left c.heard_script.new.reader) Written fault
    (from_new_host c.in_ok-host.host config c.in_ok-host.ensures.base (left c.args.reader.now) (IsHeardBrokenOff (left c.heard_script.new.reader) Written fault) c.in_err-heard.ensures.fault))

pub returns-in_err-dump_of_end-clause-fault : goal.returns-in_err-dump_of_end-clause-fault
returns-in_err-dump_of_end-clause-fault g c =
    let left = g.R.Read.remaining in
    let config = c.args.config.now in
    let Written = Appends (g.W.Write.contents c.args.writer.now) (g.W.Write.contents c.heard_script.new.writer) in
    let failed = err_from_is_err_and c.from_residual-in_err-dump_of_end.result c.from_residual-in_err-dump_of_end.ensures.1 in
    subst (λ r. IfErr r (λ f. ForNewHostReading config (left c.args.reader.now) (IsWatchedBrokenOff (left c.heard_script.new.reader) Written f))) (sym (failed.1 ∙ ap (λ f. Err f) failed.2))
    (broken_at_end config (left c.args.reader.now) (left c.heard_script.new.reader) Written
    (from_new_host c.in_ok-host.host config c.in_ok-host.ensures.base (left c.args.reader.now) (λ setting bytes. Written (script_text_of setting bytes)) c.in_ok-heard.ensures.written))
