use Rattle.std.proofs.Common.{◌≡◌, ◌≤◌, length, vec_capacity}
use Rattle.tenant_jobs.proofs.finished.add_spare.Given as goal

-- the loop variable is the number of spare entries, and is at least their initial number
abbrev pub invariant-loop-entry : goal.invariant-loop-entry
invariant-loop-entry l = (length l.spare.items ≡ l._entry) × (length l.initial.spare.items ≤ l._entry) × (vec_capacity l.spare ≡ vec_capacity l.initial.spare)
