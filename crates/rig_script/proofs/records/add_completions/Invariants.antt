use Rattle.std.proofs.Common.{◌≡◌, ◌++◌, map}
use Rattle.rig_model.specs.declared.events.Event.TheVariants.{Done}
use Rattle.rig_script.proofs.records.add_completions.Given as goal

abbrev pub invariant-loop-job : goal.invariant-loop-job
invariant-loop-job l = l.events.items ≡ l.initial.events.items ++ map Done l.yielded
