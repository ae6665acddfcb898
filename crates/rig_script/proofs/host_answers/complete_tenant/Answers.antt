use Rattle.std.proofs.Common.{◌≡◌, ◌++◌, codes, false, Ok, ◌<◌, List, Some, length, map, refl, sym, ap, subst, ◌∙◌}
use Rattle.std.proofs.lemmas.List.{reverse-reverse}
use Rattle.std.specs.Fmt.{decimal}
use Rattle.rig_model.specs.Answered.{reply_line}
use Rattle.rig_model.specs.config.Roster.{Rig, place_of}
use Rattle.rig_model.specs.declared.events.Event.TheVariants.{Done}
use Rattle.rig_model.specs.declared.jobs.JobId.{JobId}
use Rattle.rig_model.specs.Script.{operator, outstanding_at, work_step}
use Rattle.rig_script.specs.cited.HostAnswers.{Adds, IsHostAfter}
use Rattle.rig_script.specs.inner.Records.{IsRecorded}
use Rattle.rig_script.proofs.Completing.{completed_at, names_at}
use Rattle.rig_script.proofs.Speaking.{place_within}
use Rattle.rig_script.proofs.Steps.{step_done, tenant_found}
use Rattle.rig_script.proofs.host_answers.complete_tenant.Goals as goal

pub work_of-requires : goal.work_of-requires
work_of-requires g c =
    place_within c.args.host.now.config c.args.name.now c.in-Some.tenant (ap (λ (config : Rig). place_of config c.args.name.now) (sym c.config.ensures) ∙ (sym c.place_of.ensures ∙ c.in-Some.is))

pub complete_tenant-number-requires : goal.complete_tenant-number-requires
complete_tenant-number-requires g c =
    place_within c.args.host.now.config c.args.name.now c.in-Some.tenant (ap (λ (config : Rig). place_of config c.args.name.now) (sym c.config.ensures) ∙ (sym c.place_of.ensures ∙ c.in-Some.is))

pub returns : goal.returns
returns g c = λ setting past h.
    let later = c.complete_tenant-number.new.self in
    let t = c.in-Some.tenant in
    let place : place_of setting.config c.args.name.now ≡ Some t =
    ap (λ (config : Rig). place_of config c.args.name.now) (sym (c.config.ensures ∙ h.stands.same_config)) ∙ (sym c.place_of.ensures ∙ c.in-Some.is) in
    let within : t < length setting.config.tenants = place_within setting.config c.args.name.now t place in
    let jobs = outstanding_at setting past t in
    let named = names_at setting past c.args.host.now t within h in
    let number : c.complete_tenant-number.result ≡ length jobs = c.complete_tenant-number.ensures.number ∙ ap (λ (js : List JobId). length js) named in
    let before = g.R.Record.has_recorded c.args.events.now in
    let after = g.R.Record.has_recorded c.work_of.new.self in
    tenant_found setting past c.args.host.now later h (Ok false) before after (Adds c.args.text.now c.work_reply.new.text) c.args.name.now t place
    (step_done (work_step jobs) past (Ok false) before after (Adds c.args.text.now c.work_reply.new.text) (IsHostAfter setting later) (reply_line operator (codes "ok work " ++ decimal c.complete_tenant-number.result)) c.in_ok-work_reply.ensures refl (rw number refl)
    (subst (IsRecorded before after) (ap (map Done) named ∙ sym (reverse-reverse (map Done jobs))) c.in_ok-work_of.ensures)
    (completed_at setting past c.args.host.now later t within h (c.complete_tenant-number.ensures.step setting past h.stands)))
