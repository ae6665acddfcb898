use Rattle.std.proofs.Common.{◌≡◌, map}
use Rattle.std.specs.List.{list_all}
use Rattle.slab.specs.Slab.{values}
use Rattle.tenant_jobs.specs.cited.Finished.{is_included}
use Rattle.tenant_jobs.proofs.finished.Finished.has_results_of.Given as goal

-- whether all are included depends on those that are left
abbrev pub invariant-loop-key : goal.invariant-loop-key
invariant-loop-key l =
    (goal.iterator-loop-key).can_next l.key-iterator ×
    (goal.iterator-loop-key).is_finite l.key-iterator ×
    (list_all (is_included l.self.entries) (map (λ e. e.1) l.key-iterator) ≡ list_all (is_included l.self.entries) l.other.entries)
