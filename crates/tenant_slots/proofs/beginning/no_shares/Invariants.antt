use Rattle.std.proofs.Common.{◌≡◌, None, map, take}
use Rattle.std.specs.Arc.{arc_value}
use Rattle.std.specs.Option.{option_map}
use Rattle.tenant_slots.proofs.beginning.no_shares.Given as goal

abbrev pub invariant-loop-task : goal.invariant-loop-task
invariant-loop-task l = map (option_map arc_value) l.shares.items ≡ map (λ t. None) (take l._task-index l.tasks)
