use Rattle.std.proofs.Common.{◌≡◌, None, sym, subst, ◌∙◌}
use Rattle.tenant_sources.specs.inner.Links.{IsSquare}
use Rattle.tenant_sources.specs.Links.{link_in}
use Rattle.tenant_sources.proofs.LinkTables.{is_none, put_is, put_square, put_view}
use Rattle.tenant_sources.proofs.tables.SourceTable.put.Goals as goal

pub invariant_of-self : goal.invariant_of-self
invariant_of-self c =
    let place = c.has_place.ensures.has c.if-not-has_place.false in
    let square : IsSquare c.args.self.now = subst IsSquare c.self.view_is c.self.invariant in
    subst IsSquare (sym (put_view c.self.inside.rows.items c.args.self.now c.args.addition.now c.index_mut-row.result.now c.copy.result c.self.view_is place.0 c.index_mut-row.ensures.value c.copy.ensures))
    (put_square c.args.self.now c.args.addition.now square place)

pub returns : goal.returns
returns c =
    let place = c.has_place.ensures.has c.if-not-has_place.false in
    let none : link_in c.args.self.now c.args.addition.now.tenant c.args.addition.now.source ≡ None = c.link.ensures.none (is_none c.link.result (sym c.if-is_some.ensures)) in
    put_view c.self.inside.rows.items c.args.self.now c.args.addition.now c.index_mut-row.result.now c.copy.result c.self.view_is place.0 c.index_mut-row.ensures.value c.copy.ensures
    ∙ put_is c.args.self.now c.args.addition.now none
