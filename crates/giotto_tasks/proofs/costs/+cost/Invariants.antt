use Rattle.std.proofs.Common.{◌≡◌, ◌+◌, ◌-◌, ◌^◌, ◌<◌, min, drop}
use Rattle.giotto_tasks.specs.Cost.{cost_of}
use Rattle.giotto_tasks.specs.Trees.{block_of}
use Rattle.giotto_tasks.proofs.costs.+cost.Given as goal

abbrev pub invariant-block_cost-loop-s : goal.invariant-block_cost-loop-s
invariant-block_cost-loop-s l = record {
  rest : min (l.total + cost_of (block_of (drop l.s-index l.block))) (2 ^ 64 - 1) ≡ min (cost_of (block_of l.block)) (2 ^ 64 - 1);
  fits : l.total < 2 ^ 64;
}
