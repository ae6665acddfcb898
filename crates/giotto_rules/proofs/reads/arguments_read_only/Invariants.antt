use Rattle.std.proofs.Common.{◌≡◌, drop, map}
use Rattle.giotto_tasks.specs.Trees.{expression_of}
use Rattle.giotto_rules.specs.Names.{are_among}
use Rattle.giotto_rules.specs.Reads.{names_in_arguments}
use Rattle.giotto_rules.proofs.reads.arguments_read_only.Given as goal

abbrev pub invariant-loop-argument : goal.invariant-loop-argument
invariant-loop-argument l =
    are_among l.names (names_in_arguments (map expression_of (drop l.argument-index l.arguments)))
    ≡ are_among l.names (names_in_arguments (map expression_of l.arguments))
