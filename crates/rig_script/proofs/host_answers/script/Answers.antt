use Rattle.std.proofs.Common.{Result, Ok, Err, IfErr, ℕ, sym, ap, subst, ◌∙◌}
use Rattle.std.proofs.lemmas.Result.{err_from_is_err_and}
use Rattle.std.specs.Io.KnownBytes.{Appends}
use Rattle.rig_script.specs.declared.faults.ScriptFault.{ScriptFault}
use Rattle.rig_script.specs.BrokenOff.{ForNewHostReading, IsScriptBrokenOff}
use Rattle.rig_script.proofs.cited.NewScript.{written_from_start, broken_from_start}
use Rattle.rig_script.proofs.host_answers.script.Goals as goal

pub returns-clause-written : goal.returns-clause-written
returns-clause-written g c =
    let ok : Result ℕ ℕ = Ok 0 in
    written_from_start c.in_ok-host.host c.args.config.now c.in_ok-host.ensures.base ok (g.R.Read.remaining c.args.reader.now)
    (Appends (g.W.Write.contents c.args.writer.now) (g.W.Write.contents c.answer_lines.new.writer)) c.in_ok-answer_lines.ensures.written

pub returns-in_err-answer_lines-clause-fault : goal.returns-in_err-answer_lines-clause-fault
returns-in_err-answer_lines-clause-fault g c =
    let left = g.R.Read.remaining in
    let contents = g.W.Write.contents in
    let failed = err_from_is_err_and c.from_residual-in_err-answer_lines.result c.from_residual-in_err-answer_lines.ensures.1 in
    let fault = c.in_err-answer_lines.field-0.0 in
    let ended : Result ℕ ScriptFault = Err fault in
    subst (λ r. IfErr r (λ f. ForNewHostReading c.args.config.now (left c.args.reader.now)
    (IsScriptBrokenOff (left c.answer_lines.new.reader) (Appends (contents c.args.writer.now) (contents c.answer_lines.new.writer)) f))) (sym (failed.1 ∙ ap (λ f. Err f) failed.2))
    (broken_from_start c.in_ok-host.host c.args.config.now c.in_ok-host.ensures.base ended (left c.args.reader.now) (left c.answer_lines.new.reader)
    (Appends (contents c.args.writer.now) (contents c.answer_lines.new.writer)) c.in_err-answer_lines.ensures.fault)
