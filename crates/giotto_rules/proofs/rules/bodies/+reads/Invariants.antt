use Rattle.std.proofs.Common.{◌≡◌, drop}
use Rattle.giotto_tasks.specs.Names.{is_among}
use Rattle.giotto_tasks.specs.Sound.{block_reads_only}
use Rattle.giotto_tasks.specs.Trees.{block_of}
use Rattle.giotto_rules.proofs.rules.bodies.+reads.Given as goal

abbrev pub invariant-block_reads_only-loop-s : goal.invariant-block_reads_only-loop-s
invariant-block_reads_only-loop-s l = block_reads_only (is_among l.names) (block_of (drop l.s-index l.block)) ≡ block_reads_only (is_among l.names) (block_of l.block)
