use Rattle.giotto_text.proofs.Completion.{prefix_completed}
use Rattle.giotto_text.proofs.Prefixes.{begins_front, prefix_front}
use Rattle.giotto_text.proofs.laws.prefixes.Goals as goal

pub returns-clause-of_spelled : goal.returns-clause-of_spelled
returns-clause-of_spelled c = begins_front

pub returns-clause-of_prefix : goal.returns-clause-of_prefix
returns-clause-of_prefix c = prefix_front

pub returns-clause-completed : goal.returns-clause-completed
returns-clause-completed c = prefix_completed
