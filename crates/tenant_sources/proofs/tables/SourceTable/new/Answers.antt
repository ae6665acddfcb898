use Rattle.std.proofs.Common.{◌≡◌, None, Option, Vec, map, replicate, rules, subst}
use Rattle.std.specs.declared.alloc.Global.{Global}
use Rattle.tenant_sources.specs.declared.tables.Link.{Link}
use Rattle.tenant_sources.proofs.LinkSteps.{begins, square_begins}
use Rattle.tenant_sources.proofs.tables.SourceTable.new.Goals as goal
use Rattle.tenant_sources.proofs.tables.SourceTable.new.Goals.{After-loop-tenant}

module _ (c : After-loop-tenant) where
  all : map (λ (row : Vec (Option Link) Global). row.items) c.loop-tenant.rows.items ≡ replicate c.args.tenants (replicate c.args.tenants None)
  all =
      let every : c.loop-tenant._tenant ≡ c.args.tenants = search rules in
      subst (λ n. map (λ (row : Vec (Option Link) Global). row.items) c.loop-tenant.rows.items ≡ replicate n (replicate c.args.tenants None)) every c.loop-tenant.invariant

pub invariant_of-result : goal.invariant_of-result
invariant_of-result c = square_begins c.args.tenants _ (all c)

pub returns : goal.returns
returns c = λ setting as_many. begins setting c.args.tenants as_many _ (all c)
