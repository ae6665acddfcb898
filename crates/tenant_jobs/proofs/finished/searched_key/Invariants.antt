use Rattle.std.proofs.Common.{◌≡◌, ℕ, Some, Contains, map, find}
use Rattle.slab.specs.Slab.{get, values}
use Rattle.tenant_jobs.specs.Finished.{TableEntry}
use Rattle.rig_model.specs.Jobs.{same_job}
use Rattle.tenant_jobs.proofs.finished.searched_key.Given as goal

-- every entry left is one of the slab, and a search of the entries left gives the same result as a search of the slab
abbrev pub invariant-loop-key : goal.invariant-loop-key
invariant-loop-key l =
    (goal.iterator-loop-key).can_next l.key-iterator ×
    (goal.iterator-loop-key).is_finite l.key-iterator ×
    ((key : ℕ) (e : TableEntry) → Contains l.key-iterator (key, e) → get l.entries key ≡ Some e) ×
    (find (λ e. same_job e.id l.id) (map (λ e. e.1) l.key-iterator) ≡ find (λ e. same_job e.id l.id) (values l.entries))
