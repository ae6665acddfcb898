use Rattle.std.proofs.Common.{◌≡◌, ◌<◌, ℕ, true}
use Rattle.plant_laws.specs.Closed.{is_direct}
use Rattle.rig_retests.specs.Reached.{ForLinks, is_marked}
use Rattle.rig_retests.proofs.reaches.next_source.Given as goal

abbrev pub invariant-loop-source : goal.invariant-loop-source
invariant-loop-source l =
    ForLinks l.config l.retests.links (λ setting past.
    (t s : ℕ) → s < l.source → is_marked l.marks t ≡ true → is_direct setting l.plant past t s ≡ true → is_marked l.marks s ≡ true)
