use Rattle.std.proofs.Common.{◌≡◌, ◌++◌, List, length, map}
use Rattle.tenant_jobs.specs.Jobs.{JobValue}
use Rattle.rig_operator.specs.Asked.{Adds, completed}
use Rattle.rig_operator.proofs.operating.complete.Given as goal

abbrev pub invariant-loop-job : goal.invariant-loop-job
invariant-loop-job g l =
    (taken : List JobValue) × (l.fn.jobs.jobs ≡ taken ++ l.jobs.jobs) × Adds (g.G.Rig.asked l.initial.rig) (g.G.Rig.asked l.rig) (map completed taken)

abbrev pub decreases-loop-job : goal.decreases-loop-job
decreases-loop-job g l = length l.jobs.jobs
