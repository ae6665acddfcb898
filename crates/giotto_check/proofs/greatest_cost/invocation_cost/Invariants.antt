use Rattle.std.proofs.Common.{◌≡◌, ◌+◌, ◌-◌, ◌^◌, min, map, take}
use Rattle.std.specs.List.{sum}
use Rattle.giotto_tasks.specs.Cost.{operators_of}
use Rattle.giotto_tasks.specs.Trees.{expression_of}
use Rattle.giotto_rules.specs.text.ProgramTrees.{guard_of}
use Rattle.giotto_rules.specs.Costs.{guard_cost}
use Rattle.giotto_check.proofs.greatest_cost.invocation_cost.Given as goal

abbrev pub invariant-loop-argument : goal.invariant-loop-argument
invariant-loop-argument l =
    l.total ≡ min (guard_cost (guard_of l.invocation.guard) + sum (map operators_of (map expression_of (take l.argument-index l.argument-items)))) (2 ^ 64 - 1)
