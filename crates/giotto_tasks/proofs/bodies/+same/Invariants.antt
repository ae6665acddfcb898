use Rattle.std.proofs.Common.{◌≡◌, drop}
use Rattle.giotto_tasks.specs.Trees.{block_of}
use Rattle.giotto_tasks.proofs.bodies.+same.Given as goal

abbrev pub invariant-same_block-loop-i : goal.invariant-same_block-loop-i
invariant-same_block-loop-i l = record {
  rest_from_all : block_of l.a ≡ block_of l.b → block_of (drop l.i l.a) ≡ block_of (drop l.i l.b);
  all_from_rest : block_of (drop l.i l.a) ≡ block_of (drop l.i l.b) → block_of l.a ≡ block_of l.b;
}
