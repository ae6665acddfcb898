use Rattle.std.proofs.Common.{◌≡◌, drop}
use Rattle.giotto_tasks.specs.Names.{is_among}
use Rattle.giotto_tasks.specs.Sound.{block_assigns_only}
use Rattle.giotto_tasks.specs.Trees.{block_of}
use Rattle.giotto_rules.proofs.rules.bodies.+assigns.Given as goal

abbrev pub invariant-block_assigns_only-loop-s : goal.invariant-block_assigns_only-loop-s
invariant-block_assigns_only-loop-s l = block_assigns_only (is_among l.names) (block_of (drop l.s-index l.block)) ≡ block_assigns_only (is_among l.names) (block_of l.block)
