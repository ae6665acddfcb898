use Rattle.std.proofs.Common.{is_some, ap, ◌∙◌}
use Rattle.std.specs.Arc.{arc_value}
use Rattle.std.specs.List.{list_all}
use Rattle.std.specs.Vec.{with_items}
use Rattle.std.proofs.lemmas.Bool.{and_from}
use Rattle.std.proofs.lemmas.List.{with_items_is}
use Rattle.tenant_state.specs.Tenants.{is_shared}
use Rattle.tenant_state.proofs.Shares.{shared_map}
use Rattle.tenant_state.proofs.tenants.Tenant.share_all.Goals as goal

pub returns-clause-shared : goal.returns-clause-shared
returns-clause-shared c loaded =
    and_from _ _
    (shared_map arc_value (with_items c.self.inside.shares c.share_bodies.new.shares).items
    ∙ ap (list_all is_some) (with_items_is c.self.inside.shares c.share_bodies.new.shares (c.share_bodies.auto.shares ∙ c.as_mut_slice.ensures.len)) ∙ c.in_ok-share_bodies.ensures.shared)
    (ap is_shared c.in_default-waiting.is)

pub returns-in-Some-waiting-clause-shared : goal.returns-in-Some-waiting-clause-shared
returns-in-Some-waiting-clause-shared c loaded =
    and_from _ _
    (shared_map arc_value (with_items c.self.inside.shares c.share_bodies.new.shares).items
    ∙ ap (list_all is_some) (with_items_is c.self.inside.shares c.share_bodies.new.shares (c.share_bodies.auto.shares ∙ c.as_mut_slice.ensures.len)) ∙ c.in_ok-share_bodies.ensures.shared)
    c.in_ok-share.ensures.shared
