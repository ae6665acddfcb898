use Rattle.giotto_text.proofs.SameTasks.{tasks_same}
use Rattle.giotto_text.proofs.same.same_task.Goals as goal

pub returns : goal.returns
returns c =
    let same = tasks_same c.args.one.now c.args.other.now in
    (λ h. same.1 (c.same_parts.ensures.0 h), λ e. c.same_parts.ensures.1 (same.0 e))
