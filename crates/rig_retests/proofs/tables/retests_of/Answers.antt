use Rattle.rig_retests.proofs.Watching.{begins_watching, table_of_new, ticks_of_new}
use Rattle.rig_script.proofs.cited.NewScript.{course_from_new}
use Rattle.rig_retests.proofs.tables.retests_of.Goals as goal

pub heard_script-requires : goal.heard_script-requires
heard_script-requires g c = λ setting h. begins_watching setting c.in_ok-host.host c.in_ok-watcher.watcher.table c.in_ok-watcher.watcher.added.items h c.in_ok-watcher.ensures.table c.in_ok-watcher.ensures.added
    c.in_ok-watcher.watcher.lines.items c.in_ok-watcher.ensures.lines

pub returns-clause-sources : goal.returns-clause-sources
returns-clause-sources g c =
    let listener = c.in_ok-heard.heard.listener in
    table_of_new c.in_ok-host.host c.args.config.now c.in_ok-host.ensures.base listener.table listener.added.items listener.lines.items (g.R.Read.remaining c.args.reader.now) c.in_ok-heard.ensures.heard

pub returns-clause-lines : goal.returns-clause-lines
returns-clause-lines g c =
    let listener = c.in_ok-heard.heard.listener in
    ticks_of_new c.in_ok-host.host c.args.config.now c.in_ok-host.ensures.base listener.table listener.added.items listener.lines.items (g.R.Read.remaining c.args.reader.now) c.in_ok-heard.ensures.heard

pub returns-clause-course : goal.returns-clause-course
returns-clause-course g c =
    let left = g.R.Read.remaining in
    course_from_new c.in_ok-host.host c.args.config.now c.in_ok-host.ensures.base (left c.args.reader.now) (left c.heard_script.new.reader) c.in_ok-heard.heard.course c.in_ok-heard.ensures.course
