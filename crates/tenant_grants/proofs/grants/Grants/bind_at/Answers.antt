use Rattle.std.proofs.Common.{◌∙◌}
use Rattle.std.proofs.lemmas.List.{length-map}
use Rattle.tenant_grants.specs.inner.Tables.{bind_of}
use Rattle.tenant_grants.proofs.BindTables.{bind_at_entries}
use Rattle.tenant_grants.proofs.grants.Grants.bind_at.Goals as goal

pub returns-clause-bind : goal.returns-clause-bind
returns-clause-bind c =
    let inside = c.self.inside in
    rw (← c.self.view_is) (c.entry_at.ensures.entry ∙ bind_at_entries (record { place = inside.own; roster = inside.roster.value.items; most_offers = inside.most_offers; most_binds = inside.most_binds; bounds = inside.bounds }) inside.binds.entries c.self.invariant.placed c.args.i)

pub returns-clause-found : goal.returns-clause-found
returns-clause-found c = rw (← c.self.view_is, length-map c.self.inside.binds.entries bind_of) c.entry_at.ensures.found
