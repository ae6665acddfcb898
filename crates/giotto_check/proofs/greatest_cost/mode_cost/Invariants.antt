use Rattle.std.proofs.Common.{◌≡◌, ◌-◌, ◌^◌, min, max, map, take}
use Rattle.std.specs.List.{fold}
use Rattle.giotto_rules.specs.text.ProgramTrees.{update_of, switch_of, invocation_of}
use Rattle.giotto_rules.specs.Costs.{greatest, update_cost, switch_cost, invocation_cost}
use Rattle.giotto_check.proofs.greatest_cost.mode_cost.Given as goal

abbrev pub invariant-loop-update : goal.invariant-loop-update
invariant-loop-update l = l.greatest ≡ min (greatest (map update_cost (map update_of (take l.update-index l.update-items)))) (2 ^ 64 - 1)

abbrev pub invariant-loop-switch : goal.invariant-loop-switch
invariant-loop-switch l =
    l.greatest ≡ min (fold max (greatest (map update_cost (map update_of l.mode.updates))) (map switch_cost (map switch_of (take l.switch-index l.switch-items)))) (2 ^ 64 - 1)

abbrev pub invariant-loop-invocation : goal.invariant-loop-invocation
invariant-loop-invocation l =
    l.greatest
    ≡ min (fold max (fold max (greatest (map update_cost (map update_of l.mode.updates))) (map switch_cost (map switch_of l.mode.switches)))
    (map invocation_cost (map invocation_of (take l.invocation-index l.invocation-items)))) (2 ^ 64 - 1)
