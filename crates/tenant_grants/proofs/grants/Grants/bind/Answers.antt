use Rattle.std.proofs.Common.{◌≡◌, ◌<◌, Ok, length, arith, sym}
use Rattle.tenant_grants.specs.Grants.{other_side}
use Rattle.tenant_grants.proofs.KeptRows.{held_bound}
use Rattle.tenant_grants.proofs.grants.Grants.bind.Goals as goal

pub invariant_of-self : goal.invariant_of-self
invariant_of-self c =
    let room : length c.self.inside.binds.entries < c.self.inside.most_binds = omega arith in
    let known : other_side c.args.self.now.owner c.args.tenant ≡ Ok c.in_ok-place.place = sym c.in_ok-place.ensures in
    held_bound (record { place = c.self.inside.own; roster = c.self.inside.roster.value.items; most_offers = c.self.inside.most_offers; most_binds = c.self.inside.most_binds; bounds = c.self.inside.bounds })
    c.self.inside.offers.keys c.self.inside.binds.entries c.add.new.binds.entries
    (record { name = c.args.sensor }, record { tenant = c.args.tenant; place = c.in_ok-place.place; actuator = c.args.actuator }) c.add.result c.self.invariant
    (rw (← c.self.view_is) at known) room c.add.ensures.differ c.add.ensures.added c.add.ensures.same
