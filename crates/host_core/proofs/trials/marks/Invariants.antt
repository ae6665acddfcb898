use Rattle.std.proofs.Common.{◌≡◌, ◌≤◌, [], ◌∷◌, ◌++◌, length, take, reverse}
use Rattle.rig_model.specs.Base.{Setting}
use Rattle.host_core.specs.inner.Trials.{AllLeadBack, marks_from}
use Rattle.host_core.proofs.trials.marks.Given as goal

abbrev pub invariant-loop-left : goal.invariant-loop-left
invariant-loop-left l = record {
  within : l.left ≤ length l.events;
  so_far : (setting : Setting) → AllLeadBack setting (reverse l.events) (reverse l.noted)
      → AllLeadBack setting (reverse (take l.left l.events)) (reverse (take l.left l.noted))
      × (l.marks.items ++ marks_from setting l.sources.items (reverse (take l.left l.events)) ≡ marks_from setting (l.tenant ∷ []) (reverse l.events));
}

abbrev pub decreases-loop-left : goal.decreases-loop-left
decreases-loop-left l = l.left
