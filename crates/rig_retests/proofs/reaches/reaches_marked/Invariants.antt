use Rattle.std.proofs.Common.{◌≡◌, ◌<◌, ℕ, true, false}
use Rattle.plant_laws.specs.Closed.{is_direct}
use Rattle.rig_retests.specs.Reached.{ForLinks, is_marked}
use Rattle.rig_retests.proofs.reaches.reaches_marked.Given as goal

abbrev pub invariant-loop-tenant : goal.invariant-loop-tenant
invariant-loop-tenant l =
    ForLinks l.config l.retests.links (λ setting past. (t : ℕ) → t < l.tenant → is_marked l.marks t ≡ true → is_direct setting l.plant past t l.source ≡ false)
