use Rattle.std.proofs.Common.{length, ap, sym, ◌∙◌}
use Rattle.tenant_jobs.specs.Finished.{TaskTable}
use Rattle.tenant_jobs.proofs.Slots.{length-values}
use Rattle.tenant_jobs.proofs.finished.Finished.entry_count.Goals as goal

pub returns : goal.returns
returns c = c.len.ensures ∙ sym (length-values c.self.inside.entries) ∙ ap (λ (t : TaskTable). length t.entries) c.self.view_is
