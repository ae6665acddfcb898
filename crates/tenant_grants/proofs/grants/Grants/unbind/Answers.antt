use Rattle.std.proofs.Common.{refl, sym, ◌∙◌}
use Rattle.giotto_tasks.specs.Names.{same_name}
use Rattle.tenant_grants.specs.declared.tables.Sensor.{Sensor}
use Rattle.tenant_grants.proofs.BindTables.{unbound_entries}
use Rattle.tenant_grants.proofs.KeptRows.{held_unbound}
use Rattle.tenant_grants.proofs.grants.Grants.unbind.Goals as goal

pub returns-clause-unbound : goal.returns-clause-unbound
returns-clause-unbound c =
    rw (← c.self.view_is, unbound_entries c.args.sensor.now c.self.inside.binds.entries (sym c.take_out.ensures.found ∙ c.if-not-take_out.false)) (refl, rw c.take_out.ensures.left refl)

pub invariant_of-self-2 : goal.invariant_of-self-2
invariant_of-self-2 c =
    held_unbound (record { place = c.self.inside.own; roster = c.self.inside.roster.value.items; most_offers = c.self.inside.most_offers; most_binds = c.self.inside.most_binds; bounds = c.self.inside.bounds })
    c.self.inside.offers.keys c.self.inside.binds.entries c.take_out.new.binds.entries (λ (s : Sensor). same_name s.name c.args.sensor.now) c.self.invariant
    c.take_out.ensures.left c.take_out.ensures.differ
