use Rattle.std.proofs.Common.{◌≡◌, not, filter, length}
use Rattle.rig_retests.specs.Reached.{ForLinks}
use Rattle.rig_retests.proofs.Reaching.{AreSome}
use Rattle.rig_retests.proofs.reaches.marks_of.Given as goal

abbrev pub invariant-loop-source : goal.invariant-loop-source
invariant-loop-source l =
    (length l.marks.items ≡ length l.config.tenants)
    × ForLinks l.config l.retests.links (λ setting past. AreSome setting l.plant past l.tenant l.marks.items)

abbrev pub decreases-loop-source : goal.decreases-loop-source
decreases-loop-source l = length (filter not l.marks.items)
