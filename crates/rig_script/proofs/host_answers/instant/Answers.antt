use Rattle.std.proofs.Common.{rules, ◌<◌, ◌^◌, false, Ok, Err, refl, ap, ◌∙◌, sym}
use Rattle.rig_model.specs.Host.{host_after}
use Rattle.rig_script.specs.cited.HostAnswers.{Adds}
use Rattle.rig_script.proofs.Steps.{tick_done, tick_refused, tick_ended, none_told}
use Rattle.rig_script.proofs.host_answers.instant.Goals as goal

pub returns-in_ok-tick_reply-in-Ok : goal.returns-in_ok-tick_reply-in-Ok
returns-in_ok-tick_reply-in-Ok g c = λ setting past h.
    let low : c.clock-number.result < 2 ^ 64 = search rules in
    tick_done setting past c.args.host.now c.instant.new.self h (Ok false) (g.R.Record.has_recorded c.args.events.now) (g.R.Record.has_recorded c.tick.new.self) (Adds c.args.text.now c.tick_reply.new.text) c.args.frame.now
    c.clock-number.result c.clock-number.ensures low (λ other. let e = sym c.in-Ok.is ∙ c.instant.ensures.bad_frame.1 other in cc) (λ ended. let e = sym c.in-Ok.is ∙ c.instant.ensures.clock_ended.1 ended in cc)
    (c.in-Ok.ensures.step setting (host_after setting past) h.stands) c.in_ok-tick_reply-in-Ok.ensures refl c.in_ok-tick-in-Ok.ensures

pub returns-in-Err-ClockEnded : goal.returns-in-Err-ClockEnded
returns-in-Err-ClockEnded g c = λ setting past h.
    let ended = c.instant.ensures.clock_ended.0 (c.in-Err-ClockEnded.is ∙ ap (λ x. Err x) c.in-Err-ClockEnded.field-0-is) in
    tick_ended setting past c.args.host.now c.instant.new.self h c.refuse-in-Err-ClockEnded.result (g.R.Record.has_recorded c.args.events.now) (g.R.Record.has_recorded c.args.events.now) _ c.args.frame.now ended.0 ended.1
    c.in-Err-ClockEnded.ensures.refused c.refuse-in-Err-ClockEnded.ensures.reply c.refuse-in-Err-ClockEnded.ensures.refused (none_told (g.R.Record.has_recorded c.args.events.now))

pub returns-in-Err-BadFrame : goal.returns-in-Err-BadFrame
returns-in-Err-BadFrame g c = λ setting past h.
    let told = g.R.Record.has_recorded c.args.events.now in
    tick_refused setting past c.args.host.now c.instant.new.self h c.refuse.result told told _ c.args.frame.now
    (c.instant.ensures.bad_frame.0 (c.in-Err-BadFrame.is ∙ ap (λ x. Err x) c.in-Err-BadFrame.field-0-is)) c.in-Err-BadFrame.ensures.refused c.refuse.ensures.reply c.refuse.ensures.refused (none_told told)
