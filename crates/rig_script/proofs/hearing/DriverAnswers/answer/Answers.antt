use Rattle.std.proofs.Common.{List, [], sym, ap, subst, ◌∙◌}
use Rattle.host_core.specs.HostStanding.{HostStanding}
use Rattle.rig_model.specs.config.Roster.{Rig}
use Rattle.rig_model.specs.Script.{past_behind, speaker_of}
use Rattle.rig_model.specs.declared.events.Event.{Event}
use Rattle.rig_script.proofs.HeardLines.{heard_on, numbered}
use Rattle.rig_script.proofs.Noting.{noted_on}
use Rattle.rig_script.proofs.cited.Behind.{past_more}
use Rattle.rig_script.specs.cited.HostAnswers.{IsHostAfter}
use Rattle.rig_script.proofs.hearing.DriverAnswers.answer.Goals as goal

pub returns : goal.returns
returns g c = λ setting texts past w.
    let line = c.args.line.now in
    let done = c.in_ok-is_refused.ensures setting past w.0 in
    let speaks = c.who_speaks-speaker.ensures ∙ ap (λ (r : Rig). speaker_of r line) (c.config.ensures ∙ w.0.stands.same_config) in
    let number = c.count.ensures.answered in
    let after = subst (λ (h : HostStanding). IsHostAfter setting h (past_behind setting past line)) (sym c.count.ensures.host) done.2 in (
      done.0,
      (
        subst (λ (h : HostStanding). IsHostAfter setting h (past_behind setting past line)) (sym c.pass_on.ensures.host) after,
        ap (λ (p : List Event). past_behind setting p line) w.1 ∙ sym (past_more setting [] texts line),
        noted_on setting texts past line c.who_speaks-speaker.result c.args.self.now.answered c.pass_on.new.self.answered c.args.self.now.has_tenant c.pass_on.new.self.has_tenant w.2 speaks
            (c.pass_on.ensures.answered ∙ number) (c.pass_on.ensures.tenant ∙ c.count.ensures.tenant),
        λ whole.
            let passed = c.pass_on.ensures.heard whole in
            heard_on setting texts past _ c.count.new.self.host (g.L.Listener.heard c.count.new.self.listener) (g.L.Listener.heard c.pass_on.new.self.listener) w.1
            (numbered c.args.self.now.answered c.count.new.self.answered texts w.2.0 number) speaks (c.as_str.ensures.value ∙ done.0) done.3 (done.1 [] c.new-events.ensures.items) after passed.1
            (subst (λ l. g.L.Listener.heard l setting texts) (sym c.count.ensures.listener) (w.3 (sym c.count.ensures.whole ∙ passed.0))),
      ),
    )
