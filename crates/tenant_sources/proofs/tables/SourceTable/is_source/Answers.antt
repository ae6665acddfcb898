use Rattle.std.proofs.Common.{◌≡◌, ◌==◌, ◌||◌, false, is_some, sym, ap, ◌∙◌, arith}
use Rattle.std.proofs.lemmas.Bool.Decides.{nat_tests}
use Rattle.tenant_sources.specs.Links.{is_source_of, link_in}
use Rattle.tenant_sources.proofs.FirstLinks.{own_source}
use Rattle.tenant_sources.proofs.LinkSteps.{has_is, is_within, linked_is}
use Rattle.tenant_sources.proofs.tables.SourceTable.is_source.Goals as goal

pub returns-then-tenant-source-clause-sources : goal.returns-then-tenant-source-clause-sources
returns-then-tenant-source-clause-sources c = λ setting past table t u.
    sym (ap (λ v. is_source_of setting past c.args.tenant v) (sym c.if-tenant-source.true) ∙ own_source setting past c.args.tenant)

pub returns-clause-sources : goal.returns-clause-sources
returns-clause-sources c = λ setting past table t u.
    let link = link_in c.args.self.now c.args.tenant c.args.source in
    let differs : (c.args.tenant == c.args.source) ≡ false = grind (arith, nat_tests, c.if-tenant-source.false) in
    c.is_some.ensures
    ∙ (linked_is c.link.result (λ l. l.now) link c.link.ensures.some c.link.ensures.none
    ∙ (ap (λ b. b || is_some link) (sym differs) ∙ has_is setting past c.args.self.now table c.args.tenant c.args.source (is_within setting c.args.tenant t) (is_within setting c.args.source u)))
