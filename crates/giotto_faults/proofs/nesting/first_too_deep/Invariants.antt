use Rattle.std.proofs.Common.{◌≡◌, ◌≤◌, drop}
use Rattle.giotto_faults.specs.Nesting.{first_too_deep}
use Rattle.giotto_faults.proofs.nesting.first_too_deep.Given as goal

abbrev pub invariant-loop-placed : goal.invariant-loop-placed
invariant-loop-placed l = (first_too_deep 0 l.tokens ≡ first_too_deep l.depth (drop l.placed-index l.tokens)) × (l.depth ≤ 32)
