use Rattle.std.proofs.Common.{◌≡◌, ◌++◌}
use Rattle.rig_retests.proofs.recordings.add_events.Given as goal

abbrev pub invariant-loop-event : goal.invariant-loop-event
invariant-loop-event l = l.events.items ≡ l.initial.events.items ++ l.yielded
