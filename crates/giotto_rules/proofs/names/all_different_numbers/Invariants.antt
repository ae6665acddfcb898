use Rattle.std.proofs.Common.{◌≡◌, drop}
use Rattle.giotto_rules.specs.Names.{all_different_numbers}
use Rattle.giotto_rules.proofs.names.all_different_numbers.Given as goal

abbrev pub invariant-loop-i : goal.invariant-loop-i
invariant-loop-i l = all_different_numbers (drop l.i l.numbers) ≡ all_different_numbers l.numbers
