use Rattle.std.proofs.Common.{◌≡◌, take}
use Rattle.tenant_sources.specs.cited.Additions.{with_links}
use Rattle.tenant_sources.proofs.tables.SourceTable.add.Given as goal

abbrev pub invariant-loop-addition : goal.invariant-loop-addition
invariant-loop-addition l = l.self ≡ with_links l.initial.self (take l.addition-index l.added)
