use Rattle.std.proofs.Common.{◌≡◌, ◌≤◌, drop}
use Rattle.giotto_text.specs.Nesting.{nests_too_deep, nests_too_deep_from}
use Rattle.giotto_text.specs.Tokens.{bare}
use Rattle.giotto_read.proofs.reading.nests_too_deep.Given as goal

abbrev pub invariant-loop-placed : goal.invariant-loop-placed
invariant-loop-placed l = (nests_too_deep (bare l.tokens) ≡ nests_too_deep_from l.depth (bare (drop l.placed-index l.tokens))) × (l.depth ≤ 32)
