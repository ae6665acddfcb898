use Rattle.std.proofs.Common.{◌≡◌, None, Option, Vec, map, replicate}
use Rattle.std.specs.declared.alloc.Global.{Global}
use Rattle.tenant_sources.specs.declared.tables.Link.{Link}
use Rattle.tenant_sources.proofs.tables.SourceTable.new.Given as goal

abbrev pub invariant-loop-tenant : goal.invariant-loop-tenant
invariant-loop-tenant l = map (λ (row : Vec (Option Link) Global). row.items) l.rows.items ≡ replicate l._tenant (replicate l.tenants None)
