use Rattle.rig_model.specs.TextLines.{cut}
use Rattle.rig_script.proofs.cited.NewScript.{course_from_new, from_new_host}
use Rattle.rig_script.specs.Given.{texts_of}
use Rattle.rig_script.proofs.hearing.heard_without_output.Goals as goal

pub heard_script-requires : goal.heard_script-requires
heard_script-requires g c = λ setting h. c.requires setting

pub returns-clause-heard : goal.returns-clause-heard
returns-clause-heard g c =
    let listener = c.in_ok-heard.heard.listener in
    from_new_host c.in_ok-host.host c.args.config.now c.in_ok-host.ensures.base (g.R.Read.remaining c.args.reader.now)
    (λ setting bytes. g.L.Listener.heard listener setting (texts_of (cut bytes))) c.in_ok-heard.ensures.heard

pub returns-clause-course : goal.returns-clause-course
returns-clause-course g c =
    let left = g.R.Read.remaining in
    course_from_new c.in_ok-host.host c.args.config.now c.in_ok-host.ensures.base (left c.args.reader.now) (left c.heard_script.new.reader) c.in_ok-heard.heard.course c.in_ok-heard.ensures.course
