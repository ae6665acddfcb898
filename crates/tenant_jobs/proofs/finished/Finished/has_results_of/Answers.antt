use Rattle.std.proofs.Common.{refl, sym, ap, ◌∙◌}
use Rattle.std.specs.List.{list_all}
use Rattle.tenant_jobs.specs.Finished.{TableEntry, TaskTable}
use Rattle.tenant_jobs.specs.cited.Finished.{is_included}
use Rattle.tenant_jobs.proofs.Slots.{values-entries}
use Rattle.tenant_jobs.proofs.finished.Finished.has_results_of.Goals as goal

pub loop-key-init : goal.loop-key-init
loop-key-init c =
    let left = c.into_iter-key-iterator.ensures.into_iter_gives ∙ c.iter-key-items.ensures.rest in
    let all = list_all (is_included c.args.self.now.entries) in (
      tt,
      tt,
      rw left (ap all (values-entries c.other.inside.entries) ∙ ap (λ (t : TaskTable). all t.entries) c.other.view_is),
    )
