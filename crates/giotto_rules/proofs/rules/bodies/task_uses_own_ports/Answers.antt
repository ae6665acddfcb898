use Rattle.giotto_rules.proofs.cited.ProgramParts.{names_of_states}
use Rattle.giotto_rules.proofs.rules.bodies.task_uses_own_ports.Goals as goal

pub returns : goal.returns
returns c = rw (names_of_states c.args.task.now) (rw c.deref-body.ensures at c.body_uses_own_ports.ensures)
