use Rattle.std.proofs.Common.{◌≡◌, ◌++◌, codes, false, Ok, List, length, map, refl, sym, ap, subst, ◌∙◌}
use Rattle.std.proofs.lemmas.List.{reverse-reverse}
use Rattle.std.specs.Fmt.{decimal}
use Rattle.rig_model.specs.Answered.{reply_line}
use Rattle.rig_model.specs.declared.events.Event.TheVariants.{Done}
use Rattle.rig_model.specs.declared.jobs.JobId.{JobId}
use Rattle.rig_model.specs.Script.{operator, outstanding_after, work_step}
use Rattle.rig_script.specs.cited.HostAnswers.{Adds, IsHostAfter}
use Rattle.rig_script.specs.inner.Records.{IsRecorded}
use Rattle.rig_script.proofs.Completing.{all_completed, names_are}
use Rattle.rig_script.proofs.Steps.{step_done}
use Rattle.rig_script.proofs.host_answers.complete_all.Goals as goal

pub returns : goal.returns
returns g c = λ setting past h.
    let later = c.complete_all-number.new.self in
    let jobs = outstanding_after setting past in
    let named = names_are setting past c.args.host.now h in
    let number : c.complete_all-number.result ≡ length jobs = c.complete_all-number.ensures.number ∙ ap (λ (js : List JobId). length js) named in
    let before = g.R.Record.has_recorded c.args.events.now in
    let after = g.R.Record.has_recorded c.work.new.self in
    step_done (work_step jobs) past (Ok false) before after (Adds c.args.text.now c.work_reply.new.text) (IsHostAfter setting later) (reply_line operator (codes "ok work " ++ decimal c.complete_all-number.result)) c.in_ok-work_reply.ensures refl (rw number refl)
    (subst (IsRecorded before after) (ap (map Done) named ∙ sym (reverse-reverse (map Done jobs))) c.in_ok-work.ensures)
    (all_completed setting past c.args.host.now later h (c.complete_all-number.ensures.step setting past h.stands))
