use Rattle.std.proofs.Common.{◌≡◌, drop}
use Rattle.giotto_rules.specs.Names.{share_none}
use Rattle.giotto_rules.proofs.names.share_none.Given as goal

abbrev pub invariant-loop-name : goal.invariant-loop-name
invariant-loop-name l = share_none l.names (drop l.name-index l.some) ≡ share_none l.names l.some
