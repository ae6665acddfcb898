use Rattle.std.proofs.Common.{◌≡◌, None, replicate}
use Rattle.tenant_sources.proofs.tables.no_links.Given as goal

abbrev pub invariant-loop-source : goal.invariant-loop-source
invariant-loop-source l = l.row.items ≡ replicate l._source None
