use Rattle.std.proofs.Common.{◌≡◌, ◌≤◌, length, drop, arith}
use Rattle.std.proofs.lemmas.List.{at_drop_all}
use Rattle.giotto_tasks.specs.Cost.{cost_of}
use Rattle.giotto_tasks.specs.Trees.{block_of}
use Rattle.giotto_tasks.proofs.costs.+cost.Goals as goal

pub block_cost-returns : goal.block_cost-returns
block_cost-returns t c =
    let past : length c.args.block.now ≤ c.loop-s.s-index = omega arith in
    let none : cost_of (block_of (drop c.loop-s.s-index c.args.block.now)) ≡ 0 = at_drop_all (λ ss. cost_of (block_of ss)) c.args.block.now c.loop-s.s-index past in
    omega (arith, none)
