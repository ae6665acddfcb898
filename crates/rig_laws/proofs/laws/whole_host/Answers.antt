use Rattle.rig_laws.proofs.cited.AloneAlong.{same_rows, same_awaits}
use Rattle.rig_laws.proofs.cited.AloneAlong.{same_clock}
use Rattle.rig_laws.proofs.laws.whole_host.Goals as goal

pub returns-clause-rows : goal.returns-clause-rows
returns-clause-rows c = λ setting past t history. same_rows setting history.base past t history.legal

pub returns-clause-completions : goal.returns-clause-completions
returns-clause-completions c = λ setting past j history. same_awaits setting history.base past j history.legal

pub returns-clause-clock : goal.returns-clause-clock
returns-clause-clock c = same_clock
