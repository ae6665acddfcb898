use Rattle.rig_retests.proofs.Recording.{events_of_new, lines_of_new}
use Rattle.rig_script.proofs.cited.NewScript.{course_from_new}
use Rattle.rig_retests.proofs.recordings.recorded.Goals as goal

pub returns-clause-events : goal.returns-clause-events
returns-clause-events g c =
    let listener = c.in_ok-heard.heard.listener in
    events_of_new c.in_ok-host.host c.args.config.now c.in_ok-host.ensures.base listener.events.items listener.lines.items (g.R.Read.remaining c.args.reader.now) c.in_ok-heard.ensures.heard

pub returns-clause-lines : goal.returns-clause-lines
returns-clause-lines g c =
    let listener = c.in_ok-heard.heard.listener in
    lines_of_new c.in_ok-host.host c.args.config.now c.in_ok-host.ensures.base listener.events.items listener.lines.items (g.R.Read.remaining c.args.reader.now) c.in_ok-heard.ensures.heard

pub returns-clause-course : goal.returns-clause-course
returns-clause-course g c =
    let left = g.R.Read.remaining in
    course_from_new c.in_ok-host.host c.args.config.now c.in_ok-host.ensures.base (left c.args.reader.now) (left c.heard_script.new.reader) c.in_ok-heard.heard.course c.in_ok-heard.ensures.course
