use Rattle.std.proofs.Common.{◌≡◌, ◌≤◌, ℕ, length, take}
use Rattle.rig_model.specs.Sources.{is_source}
use Rattle.host_core.specs.inner.Trials.{is_reached}
use Rattle.host_core.proofs.trials.add_suppliers.Given as goal

abbrev pub invariant-loop-flow : goal.invariant-loop-flow
invariant-loop-flow l = record {
  within : l.known ≤ length l.sources.items;
  known : take l.known l.sources.items ≡ l.initial.sources.items;
  reached : (u : ℕ) → is_source l.sources.items u ≡ is_reached l.initial.sources.items (take l.flow-index l.flows) u;
}
